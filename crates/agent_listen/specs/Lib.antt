pub mod Callers
pub mod Waiting
