pub mod ByValue
pub mod SharedAgain
pub mod LocalArray
pub mod LentArray
pub mod Bodies
