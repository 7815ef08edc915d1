pub mod Refusals
pub mod Tallies
pub mod Places
pub mod Moves
