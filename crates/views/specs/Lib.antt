pub mod Views
pub mod Rooms
pub mod Program
