mod Again
mod Backward
pub mod Bits
mod Chunks
mod Maps
mod Members
mod Messages
mod Puts
mod ReadBack
mod Relation
mod Shorter
mod Slots
pub mod Utf8
