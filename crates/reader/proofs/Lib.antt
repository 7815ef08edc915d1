pub mod Progress
pub mod FileSteps
pub mod Effects
pub mod LoopSteps
