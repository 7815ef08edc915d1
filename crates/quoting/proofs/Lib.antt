pub mod Steps
pub mod Readable
pub mod ReadBack
