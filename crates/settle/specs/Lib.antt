pub mod Spread
pub mod Entries
pub mod Sizes
pub mod Fits
