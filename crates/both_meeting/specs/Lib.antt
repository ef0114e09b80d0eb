-- What arguments and frames are to each other. Assumes nothing.
pub mod Meeting
