-- What the exported calls on homes and views answer. Assumes nothing.
pub mod Views
