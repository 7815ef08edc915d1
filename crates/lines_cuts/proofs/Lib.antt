pub mod LineByLine
pub mod AsListed
pub mod Lengths
pub mod HerdSteps
pub mod WellFormed
pub mod Examples
