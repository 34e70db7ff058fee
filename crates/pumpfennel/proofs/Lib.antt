-- What the calls answer case by case, and the theorem of the demands.
pub mod Cases
pub mod Earlier
pub mod Former
pub mod OneMore
pub mod Demands
