pub mod Walking
pub mod Tried
pub mod Cutting
pub mod Numerals
pub mod Placed
pub mod Followed
