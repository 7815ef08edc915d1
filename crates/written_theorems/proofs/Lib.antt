pub mod Values
pub mod Labels
pub mod Herds
pub mod Farms
pub mod StandardInput
pub mod Needed
pub mod NoShorter
