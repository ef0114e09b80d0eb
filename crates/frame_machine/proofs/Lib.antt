pub mod Judging
pub mod States
pub mod Coding
pub mod Outcomes
pub mod Areas
pub mod Formulas
