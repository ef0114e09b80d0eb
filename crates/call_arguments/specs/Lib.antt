-- A call's arguments, read and kept. Assumes nothing.
pub mod Helpers
