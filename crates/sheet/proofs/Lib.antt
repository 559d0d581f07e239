pub mod Noted
pub mod InOrder
