-- That both planners agree, for PowerPC and for Z, and together.
pub mod Runs
pub mod Power
pub mod ZSeries
pub mod Theorem
pub mod Spots
