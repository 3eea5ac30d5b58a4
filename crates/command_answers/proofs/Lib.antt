pub mod Written
pub mod Sourced
