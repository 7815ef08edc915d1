pub mod Program
pub mod Files
