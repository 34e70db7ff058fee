pub mod Weights
pub mod Weighted
pub mod Inner
