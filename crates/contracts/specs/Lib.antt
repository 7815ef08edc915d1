pub mod Listings
pub mod Files
pub mod Reasons
