pub mod Tests
pub mod HerdSteps
pub mod Accepts
pub mod Places
pub mod Refuses
pub mod Examples
