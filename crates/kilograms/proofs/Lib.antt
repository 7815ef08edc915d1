pub mod Doubles
pub mod Converting
pub mod Promised
pub mod Small
