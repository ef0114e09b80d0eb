-- What the printed plan of a signature is. Assumes nothing.
pub mod Words
pub mod Text
