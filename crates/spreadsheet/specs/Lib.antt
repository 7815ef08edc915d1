pub mod Faults
pub mod Mended
pub mod Passed
