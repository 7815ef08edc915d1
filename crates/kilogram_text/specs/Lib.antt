pub mod Kilograms
