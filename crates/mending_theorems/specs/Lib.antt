pub mod Undoing
pub mod Faultless
pub mod Damaged
