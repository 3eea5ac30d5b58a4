pub mod Tapes
pub mod Plays
pub mod Pairs
pub mod ReadTapes
