pub mod PlaceSteps
