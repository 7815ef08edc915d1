pub mod ValueLengths
pub mod Lengths
pub mod Examples
