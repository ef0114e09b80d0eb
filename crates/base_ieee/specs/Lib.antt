-- What the crate's contracts mean: the formats and their fields, widening, narrowing.
pub mod Format
pub mod Widening
pub mod Narrowing
pub mod Helpers
