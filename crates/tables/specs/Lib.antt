pub mod Standards
pub mod Growth
pub mod Series
