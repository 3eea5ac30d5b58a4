pub mod Sends
pub mod Entered
pub mod Hands
pub mod Passes
pub mod Starts
pub mod ReadLines
