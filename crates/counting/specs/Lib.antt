pub mod Totals
pub mod Needed
pub mod Refusals
pub mod Answers
pub mod Inner
