-- What taking values asks of the buffers. Assumes nothing.
pub mod Helpers
