-- Z slot by slot. Assumes nothing.
pub mod Slots
pub mod Helpers
