pub mod Units
pub mod Arithmetic
pub mod Dividing
pub mod Collecting
pub mod Portion
pub mod Bounds
