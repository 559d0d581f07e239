pub mod AtLine
pub mod Taken
