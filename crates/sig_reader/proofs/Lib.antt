-- Laws that belong to no one function.
pub mod Arguments
pub mod Found
pub mod Numbers
pub mod Examples
