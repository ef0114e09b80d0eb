-- Views of arguments. Assumes nothing.
pub mod View
