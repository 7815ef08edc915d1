pub mod SlotSteps
pub mod Ranges
