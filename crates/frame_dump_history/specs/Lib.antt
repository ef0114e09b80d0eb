-- What the walk of a machine's memory shows. Assumes nothing.
pub mod Shown
