-- The second plan in words. Assumes nothing.
pub mod Words
