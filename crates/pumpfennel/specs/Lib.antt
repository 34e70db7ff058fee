pub mod Inner
pub mod Calls
pub mod Former
pub mod OneMore
pub mod Demands
