-- Parameters as one structure in memory, and the registers over it. Assumes nothing.
pub mod Structure
pub mod Helpers
