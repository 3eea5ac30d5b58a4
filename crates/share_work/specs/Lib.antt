pub mod Steps
pub mod Tickets
pub mod Working
pub mod Worked
pub mod Parting
