pub mod Entries
pub mod Runs
pub mod Takes
pub mod Laws
