-- The worked cases of document 01. Assumes nothing.
pub mod Vectors
