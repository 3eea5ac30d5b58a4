pub mod Texts
pub mod Parts
pub mod Printed
pub mod Typed
pub mod Statuses
pub mod Laws
