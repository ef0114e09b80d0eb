-- Laws that belong to no one function.
pub mod Answers
pub mod Alike
pub mod Items
pub mod Outcomes
pub mod Theorems
pub mod Examples
