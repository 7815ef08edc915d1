pub mod Times
pub mod OnPasture
pub mod Into
pub mod Truths
pub mod Growing
