-- Laws of the calls. Assumes nothing.
pub mod Items
pub mod Parts
pub mod Steps
pub mod Went
