-- What the items of places in a stored plan are. Assumes nothing.
pub mod Places
pub mod Listed
pub mod Helpers
