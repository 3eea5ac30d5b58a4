pub mod Routing
pub mod Rooms
pub mod Parts
pub mod Nearest
