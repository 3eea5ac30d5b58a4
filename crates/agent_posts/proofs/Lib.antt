pub mod Waiting
pub mod Growing
pub mod Handing
