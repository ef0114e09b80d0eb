-- What the places of arguments and results mean. Assumes nothing.
pub mod Values
pub mod Power
pub mod ZSeries
pub mod Step
pub mod Places
pub mod Results
pub mod Spots
pub mod Helpers
