pub mod Allowed
pub mod Accepted
pub mod Shown
