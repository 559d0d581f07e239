pub mod Marks
pub mod Rows
pub mod Trim
pub mod Growth
pub mod Soundness
