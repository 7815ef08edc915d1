pub mod LineSteps
pub mod ReasonSteps
pub mod HerdSteps
pub mod Fits
pub mod Examples
pub mod WellFormed
