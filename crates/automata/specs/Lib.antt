pub mod Automaton
pub mod Reading
pub mod Rows
pub mod Measure
pub mod Measures
pub mod Worth
pub mod Table
pub mod Lawful
