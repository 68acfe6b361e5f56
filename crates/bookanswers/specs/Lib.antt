pub mod BookAnswers
