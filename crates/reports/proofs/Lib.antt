pub mod Highest
pub mod Told
