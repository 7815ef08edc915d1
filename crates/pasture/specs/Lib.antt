pub mod Pasture
pub mod Bounds
