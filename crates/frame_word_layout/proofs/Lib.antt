pub mod Laws
pub mod Refused
pub mod ReadBack
pub mod Theorems
pub mod Kept
