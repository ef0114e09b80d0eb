-- Laws and theorems of the walker. Assumes nothing.
pub mod Shifted
pub mod Reached
pub mod Exactly
pub mod Words
pub mod Steps
pub mod Walks
pub mod Examples
