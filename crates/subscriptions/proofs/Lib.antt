mod Bools
mod Lists
mod Leasts
mod Subacks
pub mod Sets
mod Reached
mod Counts
mod Additions
mod Keeping
mod Renewals
mod Grants
pub mod Orders
