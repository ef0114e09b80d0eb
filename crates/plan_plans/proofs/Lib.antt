-- Laws that belong to no one function.
pub mod Fold
pub mod Turns
pub mod Taken
pub mod Measures
pub mod Answers
pub mod Calls
pub mod Apart
pub mod Theorems
pub mod Printable
pub mod Examples
