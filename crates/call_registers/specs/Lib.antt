-- Words in the general registers of an image. Assumes nothing.
pub mod Registers
pub mod Helpers
