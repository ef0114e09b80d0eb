-- A plan in 64-bit words. Assumes nothing.
pub mod Entries
pub mod Helpers
pub mod Planned
