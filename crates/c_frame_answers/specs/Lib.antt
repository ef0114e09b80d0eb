-- What the exported calls of the frame machine answer. Assumes nothing.
pub mod Frames
