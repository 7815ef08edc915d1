pub mod Rules
pub mod Refusals
pub mod FarmFile
pub mod Printed
