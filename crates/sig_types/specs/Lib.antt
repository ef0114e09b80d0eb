-- What the types of a signature mean. Assumes nothing.
pub mod Sizes
pub mod Codes
pub mod Structs
pub mod Trees
pub mod Limits
