pub mod ByHand
pub mod Factor
pub mod Fractions
pub mod Growing
pub mod Through
pub mod Truths
