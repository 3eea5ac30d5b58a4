pub mod Recorded
pub mod Told
pub mod Entered
pub mod Times
