pub mod Held
pub mod Soundness
