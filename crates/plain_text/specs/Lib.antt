pub mod Lines
pub mod Words
pub mod Escapes
pub mod Payloads
pub mod Reading
pub mod Numbers
