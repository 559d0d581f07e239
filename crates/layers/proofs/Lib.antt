pub mod Marking
pub mod Productives
pub mod Readiness
pub mod Collecting
pub mod Growing
pub mod Trims
pub mod RowChains
pub mod Filling
