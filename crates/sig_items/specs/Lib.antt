-- What reading a type item finds, and the bytes that an encoder gives for a type. Assumes nothing.
pub mod Reading
pub mod Refusals
pub mod Read
pub mod Answer
pub mod Encode
pub mod Seven
pub mod HowFar
