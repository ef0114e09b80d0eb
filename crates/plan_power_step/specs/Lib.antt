-- What the code counts of one argument on PowerPC. Assumes nothing.
pub mod Helpers
