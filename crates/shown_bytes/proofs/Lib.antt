pub mod Steps
pub mod Readable
