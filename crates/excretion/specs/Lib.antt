pub mod Excretion
