-- Laws that belong to no one function.
pub mod Typed
pub mod Held
pub mod Marked
pub mod Planned
pub mod Buffers
pub mod Answered
pub mod Turns
pub mod Refusals
pub mod Examples
pub mod Limits
pub mod Doublewords
