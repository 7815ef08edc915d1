pub mod Reasons
pub mod Gets
pub mod Rows
