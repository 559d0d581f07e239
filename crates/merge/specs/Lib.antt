pub mod Merge
pub mod Refine
pub mod Soundness
