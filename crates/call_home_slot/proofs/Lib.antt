-- Laws that belong to no one function.
pub mod Homed
pub mod Marked
pub mod Forms
