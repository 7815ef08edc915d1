pub mod Names
pub mod Cuts
pub mod Herd
pub mod Divisions
pub mod InUnits
