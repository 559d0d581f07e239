pub mod Ruling
pub mod Chaining
