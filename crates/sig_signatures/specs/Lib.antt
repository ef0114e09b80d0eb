-- What reading a signature finds, and the bytes that an encoder gives for one. Assumes nothing.
pub mod Signature
pub mod Limits
pub mod Read
pub mod Answer
pub mod Types
pub mod Helpers
pub mod Numbers
pub mod Encode
pub mod Exact
