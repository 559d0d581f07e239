mod Barren
mod Counted
