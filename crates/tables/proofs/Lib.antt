pub mod Standards
pub mod Entries
pub mod Growth
pub mod Series
pub mod Rounding
