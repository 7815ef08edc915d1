pub mod Passing
pub mod Marks
pub mod Lengths
pub mod Counting
pub mod Starts
pub mod Examples
