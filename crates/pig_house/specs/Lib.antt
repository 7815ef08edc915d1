pub mod Parameters
pub mod PigHouse
pub mod NxOx
pub mod Bounds
