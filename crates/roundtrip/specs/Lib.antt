pub mod NotOfShape
pub mod NotTableShape
