-- Where a parameter and a result are, in the second planner's terms. Assumes nothing.
pub mod Values
