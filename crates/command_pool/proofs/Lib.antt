pub mod Held
pub mod Words
pub mod Moves
pub mod Moments
pub mod Tries
