pub mod Rates
pub mod Bounds
