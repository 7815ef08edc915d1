pub mod HerdSteps
pub mod FarmSteps
pub mod FileSteps
pub mod OutputSteps
