pub mod Counts
pub mod Writes
pub mod Wires
pub mod Clocks
pub mod Plans
