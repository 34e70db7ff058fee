pub mod Joined
pub mod Ordered
pub mod Searched
pub mod Linked
pub mod Inner
