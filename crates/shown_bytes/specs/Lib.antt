pub mod Shown
pub mod Readable
