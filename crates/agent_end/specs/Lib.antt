pub mod Serving
pub mod Owed
pub mod Turns
pub mod Short
