pub mod Views
pub mod Files
