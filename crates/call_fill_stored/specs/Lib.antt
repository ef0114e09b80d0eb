-- What filling from a stored plan answers and leaves. Assumes nothing.
pub mod FillStored
pub mod Plain
