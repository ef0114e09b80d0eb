-- The second plan of a signature. Assumes nothing.
pub mod Answer
