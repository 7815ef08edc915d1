pub mod Choices
pub mod Free
pub mod Sound
