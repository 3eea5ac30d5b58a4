pub mod Topics
pub mod Reading
pub mod Plain
pub mod Kinds
pub mod Services
pub mod Laws
