-- Laws that belong to no one function.
pub mod Agree
pub mod Examples
pub mod Arguments
pub mod Accepted
