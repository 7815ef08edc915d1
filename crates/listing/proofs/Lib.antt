pub mod KindLines
pub mod AsListed
pub mod WellFormed
pub mod Examples
