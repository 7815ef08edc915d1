pub mod InHousing
pub mod Truths
pub mod Growing
pub mod ByHand
