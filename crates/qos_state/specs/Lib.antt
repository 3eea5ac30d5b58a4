pub mod Deliveries
pub mod Apart
