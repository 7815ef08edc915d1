pub mod Contents
pub mod Going
pub mod Steps
pub mod Promises
