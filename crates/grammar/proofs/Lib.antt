pub mod Cases
pub mod Agrees
pub mod Written
pub mod Files
pub mod Examples
