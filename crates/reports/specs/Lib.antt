pub mod Grammar
pub mod House
pub mod Levels
pub mod Words
