pub mod Award
