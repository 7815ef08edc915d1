pub mod TallySteps
pub mod Tallied
pub mod ByHand
