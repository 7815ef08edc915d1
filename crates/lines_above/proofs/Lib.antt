pub mod Steps
pub mod WellFormed
pub mod Examples
