-- The words of a plan. Assumes nothing.
pub mod Words
pub mod Results
