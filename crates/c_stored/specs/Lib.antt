-- The words of the answers on stored plans. Assumes nothing.
pub mod Stored
