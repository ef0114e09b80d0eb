-- What the exported functions answer. Assumes nothing.
pub mod Surface
