pub mod Disks
pub mod Memory
pub mod Fitting
pub mod Slots
pub mod Files
