pub mod Written
pub mod NoShorter
pub mod Steps
pub mod Examples
