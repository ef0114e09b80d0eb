-- The home of one argument. Assumes nothing.
pub mod Homes
pub mod Helpers
