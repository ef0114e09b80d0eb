-- What reading does. Assumes nothing.
pub mod Read
pub mod Helpers
