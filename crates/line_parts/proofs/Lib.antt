pub mod LabelField
pub mod Paths
pub mod OneByOne
pub mod Middles
pub mod Records
pub mod Lengths
pub mod Examples
