pub mod Invariant
pub mod Entering
pub mod Writing
pub mod Leaving
pub mod Theorem
pub mod Floor
pub mod Examples
