pub mod Yard
pub mod Bounds
