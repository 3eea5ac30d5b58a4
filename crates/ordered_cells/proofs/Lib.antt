mod Flags
mod Orders
mod Counts
mod Kept
mod Found
mod Placed
mod Searches
mod Updates
