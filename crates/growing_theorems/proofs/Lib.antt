pub mod Names
pub mod Alike
pub mod Herd
pub mod Farm
pub mod Examples
pub mod Rising
