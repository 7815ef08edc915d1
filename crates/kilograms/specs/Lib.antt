pub mod Kilograms
pub mod Promised
