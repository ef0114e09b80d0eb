-- The walk of a dump, and what an accepted one says. Assumes nothing.
pub mod Walk
pub mod Chain
