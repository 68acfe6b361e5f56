pub mod WordText
