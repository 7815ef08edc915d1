pub mod Lengths
pub mod Amounts
pub mod Lacking
pub mod Rooms
