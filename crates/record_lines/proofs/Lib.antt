pub mod Plain
pub mod Records
