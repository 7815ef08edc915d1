pub mod Signs
pub mod Lengths
pub mod Written
pub mod Examples
