pub mod Calls
pub mod Preserved
pub mod Floor
