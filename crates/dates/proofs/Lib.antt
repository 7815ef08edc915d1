pub mod DateSteps
pub mod DateTexts
