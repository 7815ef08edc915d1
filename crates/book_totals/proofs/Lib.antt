pub mod Beyond
pub mod Parts
