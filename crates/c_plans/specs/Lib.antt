-- What the exported functions on plans answer. Assumes nothing.
pub mod Plans
