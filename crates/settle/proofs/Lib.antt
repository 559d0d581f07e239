pub mod Ascending
pub mod Spreading
pub mod Fitting
pub mod EntriesMade
pub mod Totals
