-- What a link over TCP counts and how long it waits.
pub mod Looks
