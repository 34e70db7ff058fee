pub mod Pattern
pub mod Question
pub mod Unheard
pub mod Answers
pub mod Demand3
pub mod Blanks
pub mod Examples
pub mod Inner
