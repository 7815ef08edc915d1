pub mod Printed
pub mod Meant
