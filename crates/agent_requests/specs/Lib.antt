pub mod Takes
pub mod Intake
pub mod Laws
