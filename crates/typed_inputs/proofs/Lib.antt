pub mod Fields
pub mod Named
pub mod Sound
