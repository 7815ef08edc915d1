pub mod DaySteps
pub mod Numbered
