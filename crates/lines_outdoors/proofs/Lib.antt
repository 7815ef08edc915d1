pub mod LineSteps
pub mod Examples
