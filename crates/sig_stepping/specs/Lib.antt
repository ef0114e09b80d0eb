-- What stands at a place of any bytes. Assumes nothing.
pub mod Step
