pub mod Hands
pub mod Rule
pub mod Kinds
pub mod Passes
pub mod Takes
pub mod Laws
