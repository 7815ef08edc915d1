pub mod Minus
