pub mod TableAnswers
