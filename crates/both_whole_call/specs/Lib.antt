-- What a whole call through the frame machine is. Assumes nothing.
pub mod Put
pub mod Reached
pub mod Caller
pub mod WholeCall
