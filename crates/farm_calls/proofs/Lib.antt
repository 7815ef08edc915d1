pub mod Steps
pub mod Refusals
