pub mod RecordSteps
pub mod HerdSteps
pub mod Fits
pub mod WellFormed
pub mod Examples
