pub mod Flags
pub mod Owing
pub mod Once
pub mod Turning
pub mod Without
