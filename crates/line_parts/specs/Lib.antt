pub mod Fields
pub mod Paths
pub mod Bounds
pub mod Owners
pub mod Middles
