pub mod Calendar
pub mod Following
