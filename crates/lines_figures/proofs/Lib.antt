pub mod Fits
pub mod HerdSteps
pub mod FarmSteps
