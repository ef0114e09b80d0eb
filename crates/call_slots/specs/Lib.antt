-- What stands in the slots of an argument, and the lent buffers that hold them. Assumes nothing.
pub mod Buffers
pub mod Forms
pub mod Placements
pub mod Answer
pub mod Refusals
pub mod Helpers
pub mod Arguments
