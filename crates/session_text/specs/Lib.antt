pub mod Spelling
pub mod Reading
pub mod Fitting
pub mod Laws
