-- The arguments of a call in words. Assumes nothing.
pub mod Helpers
