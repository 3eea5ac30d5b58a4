pub mod Saved
pub mod Worked
