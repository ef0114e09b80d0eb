-- What the conventions' numbers are. Assumes nothing.
pub mod Numbers
