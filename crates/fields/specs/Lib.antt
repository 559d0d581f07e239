pub mod Fault
pub mod Parts
pub mod Words
pub mod Tokens
pub mod Names
pub mod Sentence
