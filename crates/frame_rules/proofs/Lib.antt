pub mod Facts
pub mod Conventions
pub mod Places
pub mod Formulas
pub mod Restoring
pub mod Writing
pub mod Halves
