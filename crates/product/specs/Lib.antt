pub mod Product
pub mod Soundness
