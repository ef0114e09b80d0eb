-- What the exported calls of a walker answer. Assumes nothing.
pub mod Walk
