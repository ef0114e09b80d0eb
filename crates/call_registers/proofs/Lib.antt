-- Laws that belong to no one function.
pub mod Registers
pub mod Putting
pub mod Taking
