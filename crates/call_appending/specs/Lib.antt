-- What it means that appended arguments move nothing. Assumes nothing.
pub mod Appending
pub mod Printed
pub mod Filled
pub mod Driver
