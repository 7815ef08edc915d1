pub mod SlotSteps
pub mod LabelSteps
pub mod PrintSteps
pub mod PrintsSoFar
