-- Laws that belong to no one function.
pub mod Turns
pub mod Rows
pub mod Returned
