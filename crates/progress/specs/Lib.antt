pub mod Herds
