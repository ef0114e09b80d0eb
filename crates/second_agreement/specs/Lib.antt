-- That both planners agree. Assumes nothing.
pub mod Agreement
