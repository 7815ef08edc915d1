pub mod Leaves
pub mod Last
pub mod OfKind
pub mod Grown
