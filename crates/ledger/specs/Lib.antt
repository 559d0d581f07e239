pub mod Reach
pub mod Ledger
pub mod Layout
pub mod Closed
pub mod Soundness
