-- What putting a value asks of the buffers. Assumes nothing.
pub mod Helpers
