pub mod Asked
pub mod Requests
pub mod Steps
pub mod Scripts
pub mod ScriptReading
pub mod Laws
