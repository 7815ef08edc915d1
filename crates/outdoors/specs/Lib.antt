pub mod Outdoors
pub mod Tallies
