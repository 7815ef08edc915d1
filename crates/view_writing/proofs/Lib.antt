pub mod Behind
pub mod LengthSteps
pub mod PartSteps
pub mod WriteSteps
