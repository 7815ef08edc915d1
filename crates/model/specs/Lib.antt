pub mod Answers
pub mod Kept
pub mod Truths
pub mod Edges
