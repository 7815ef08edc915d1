pub mod Sections
pub mod Names
pub mod Grams
pub mod Equations
