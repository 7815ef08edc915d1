pub mod HerdLines
pub mod Listing
pub mod Records
pub mod Numbered
