pub mod Search
pub mod Sweep
pub mod Searched
