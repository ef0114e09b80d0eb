-- What the plan of a signature means. Assumes nothing.
pub mod Plan
pub mod Call
pub mod Disjoint
pub mod Helpers
