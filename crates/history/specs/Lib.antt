pub mod Stands
pub mod Settle
