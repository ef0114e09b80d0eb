-- What a stored plan is, what its writer and its check answer, and what is proved of them. Assumes nothing.
pub mod Stored
pub mod Helpers
pub mod Exact
