-- What stepping through a signature finds, and what one argument of a signature is. Assumes nothing.
pub mod Reader
pub mod Argument
pub mod Numbers
pub mod Helpers
