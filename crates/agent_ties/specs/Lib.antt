pub mod Seen
pub mod Wired
pub mod Heard
pub mod Ties
pub mod Counting
pub mod Laws
