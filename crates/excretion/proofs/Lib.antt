pub mod Modest
pub mod Truths
pub mod Growing
pub mod ByHand
