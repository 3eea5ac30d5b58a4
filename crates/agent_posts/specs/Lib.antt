pub mod Waiting
pub mod Kinds
pub mod Mail
pub mod Laws
