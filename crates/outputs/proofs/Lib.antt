pub mod Signed
pub mod ByNumber
pub mod Mapped
pub mod Adding
pub mod Bounds
pub mod Alone
pub mod Equations
