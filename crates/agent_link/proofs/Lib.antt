pub mod Readings
pub mod Writing
pub mod Gave
