pub mod Notes
pub mod Commands
pub mod Outcomes
pub mod Sides
pub mod Answers
pub mod Logs
