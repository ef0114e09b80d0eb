-- The sizes of a plan without a table: the laws. Assumes nothing.
pub mod Sizing
