-- The laws of marks.
pub mod Marks
