pub mod Pointers
pub mod Chains
pub mod Walking
pub mod Theorem
