pub mod Counted
pub mod Putting
pub mod Exact
pub mod Values
pub mod Records
pub mod Packets
pub mod Sessions
