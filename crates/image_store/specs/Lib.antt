pub mod Banks
pub mod Images
pub mod Faults
pub mod Memory
pub mod Writing
pub mod Standing
