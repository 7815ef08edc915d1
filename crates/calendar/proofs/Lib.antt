pub mod MonthSteps
pub mod Years
pub mod Rows
