pub mod Logs
pub mod Answers
