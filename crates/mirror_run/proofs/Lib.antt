mod StepLoops
mod Growing
mod Notes
mod Rows
mod Called
pub mod Sourced
