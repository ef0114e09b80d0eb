-- The words of an answer. Assumes nothing.
pub mod Answers
