-- Laws that belong to no one function.
pub mod Laws
pub mod Levels
pub mod Has
pub mod Trees
pub mod Complete
pub mod Sound
pub mod HowFar
pub mod Loop
pub mod Seven
pub mod Numbers
