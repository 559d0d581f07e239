pub mod Chain
pub mod Steps
pub mod House
