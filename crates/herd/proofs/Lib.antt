pub mod Housed
pub mod Made
pub mod Bounds
pub mod Agree
pub mod Herds
pub mod Growing
