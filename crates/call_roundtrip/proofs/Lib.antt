-- The theorems, and the laws that they rest on.
pub mod Kept
pub mod Forms
pub mod Arguments
pub mod Theorems
pub mod Places
pub mod Alone
pub mod Views
pub mod HiddenAddress
pub mod Some
