pub mod HerdSteps
