-- Laws that belong to no one function. `Theorems` and `Laws` are for readers and for the crates above; the others lead to
-- them.
mod Fields
mod Classes
mod Magnitudes
mod Values
pub mod Laws
pub mod Theorems
