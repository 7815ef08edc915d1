pub mod FarmSteps
