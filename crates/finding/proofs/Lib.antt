pub mod Modules
pub mod Finds
pub mod Searches
