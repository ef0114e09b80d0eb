-- What the line of one argument in a printed plan is. Assumes nothing.
pub mod Words
pub mod Line
