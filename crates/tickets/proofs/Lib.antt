pub mod Scans
pub mod Forests
pub mod Checks
pub mod CheckExact
pub mod FormList
