pub mod AddUp
pub mod Agree
pub mod InUnits
pub mod EveryDivision
pub mod ByHand
