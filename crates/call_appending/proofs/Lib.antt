-- The theorems, and the laws that they rest on.
pub mod Folds
pub mod Encoded
pub mod Theorems
pub mod Printed
pub mod Filled
pub mod Driver
