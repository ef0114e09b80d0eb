-- Laws that belong to no one function.
pub mod Laws
pub mod Loop
pub mod Sound
pub mod Complete
pub mod Theorems
pub mod Types
pub mod Numbers
pub mod Examples
pub mod HowFar
