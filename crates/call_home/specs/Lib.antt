-- What home is, and a view of what it left. Assumes nothing.
pub mod Home
pub mod Helpers
