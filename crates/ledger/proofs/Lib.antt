pub mod Blocks
pub mod Moves
pub mod Steps
pub mod Taken
pub mod GoodLedgers
pub mod LaidOut
pub mod SaneRows
