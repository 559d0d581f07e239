pub mod Forms
pub mod Ticket
pub mod Check
pub mod Checked
