-- Laws that belong to no one function.
pub mod Shares
pub mod Bounds
pub mod Between
pub mod Registers
pub mod Written
pub mod Examples
pub mod Marked
