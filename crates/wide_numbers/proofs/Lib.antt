pub mod Steps
pub mod Agrees
