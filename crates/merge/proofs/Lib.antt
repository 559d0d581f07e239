pub mod Tally
pub mod Merging
pub mod Merges
pub mod Keys
pub mod KeyTables
pub mod Refining
pub mod Keying
