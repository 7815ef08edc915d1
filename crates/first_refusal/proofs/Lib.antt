pub mod Order
pub mod Clean
pub mod Readings
