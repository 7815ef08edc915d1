pub mod RecordSteps
pub mod FileSteps
pub mod Files
pub mod Reasons
