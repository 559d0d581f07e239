pub mod Reduced
pub mod Narrows
pub mod Promise
pub mod Restricts
