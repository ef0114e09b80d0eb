-- What a writer of text leaves in a lent buffer, and the digits of a number. Assumes nothing.
pub mod Decimals
pub mod Writing
