pub mod Limits
pub mod Labels
pub mod Prints
pub mod Herds
pub mod Refusals
pub mod Answers
