pub mod Steps
pub mod Rules
pub mod Answers
