-- Laws that belong to no one function.
pub mod Codes
pub mod Rows
