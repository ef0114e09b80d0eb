-- Laws that belong to no one function.
pub mod Laws
pub mod Examples
pub mod Listing
