pub mod Ammonia
pub mod Beginnings
pub mod Promises
pub mod Answers
pub mod Steps
