pub mod Levels
pub mod Texts
pub mod Fitting
pub mod Laws
