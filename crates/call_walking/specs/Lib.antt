-- What the functions below a step ask and give. Assumes nothing.
pub mod Helpers
