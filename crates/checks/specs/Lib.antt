pub mod Checks
pub mod Accepts
pub mod Refusals
