pub mod Ruled
pub mod Ladder
pub mod Bar
pub mod Made
pub mod Soundness
