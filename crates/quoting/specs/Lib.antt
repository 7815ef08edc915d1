pub mod Quoted
pub mod Units
pub mod Shell
