-- What a walker is, what its calls do, and what is proved of it. Assumes nothing.
pub mod Walker
pub mod Step
pub mod Words
pub mod Walks
pub mod Helpers
