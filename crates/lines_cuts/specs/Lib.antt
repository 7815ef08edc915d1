pub mod Rooms
pub mod Lines
pub mod Records
pub mod Numbered
