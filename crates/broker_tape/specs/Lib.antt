pub mod Tape
pub mod TapeReading
pub mod Playing
pub mod Given
pub mod Laws
