pub mod Subscribed
pub mod Copies
pub mod Session
pub mod Kept
pub mod Rules
pub mod Past
pub mod Laws
pub mod Worked
