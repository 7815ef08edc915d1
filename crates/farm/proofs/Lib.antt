pub mod Left
pub mod LabelSteps
pub mod LabelTexts
pub mod PrintSteps
pub mod Slots
pub mod Empty
pub mod Narrow
pub mod Numbered
