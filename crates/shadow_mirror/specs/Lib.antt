pub mod Documents
pub mod Pasts
pub mod Rules
pub mod Known
pub mod Readers
pub mod Writers
