mod Names
mod Each
pub mod Lines
mod Loops
pub mod Short
mod Found
mod Counts
