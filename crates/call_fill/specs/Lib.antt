-- What filling does. Assumes nothing.
pub mod Fill
pub mod Helpers
