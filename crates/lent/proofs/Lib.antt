pub mod Lists
pub mod Steps
pub mod Entries
pub mod Loaded
