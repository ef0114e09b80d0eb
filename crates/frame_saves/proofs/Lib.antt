pub mod Words
pub mod Runs
pub mod Saving
pub mod Taking
