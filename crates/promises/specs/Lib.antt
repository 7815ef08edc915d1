pub mod Formulas
pub mod Records
