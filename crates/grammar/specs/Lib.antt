pub mod Layout
pub mod Chains
pub mod Refusals
pub mod Answers
pub mod Trees
pub mod FullList
pub mod Inner
