pub mod Puts
pub mod Steps
