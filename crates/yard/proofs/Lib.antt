pub mod Times
pub mod OnYard
pub mod Truths
pub mod Growing
pub mod ByHand
