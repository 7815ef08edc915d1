pub mod Places
pub mod Decided
pub mod ChangeSteps
