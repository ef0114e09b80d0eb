-- The words of a reading's fault. Assumes nothing.
pub mod Faults
