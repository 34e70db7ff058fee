-- Contracts of inner functions. What the calls promise is said without them, so a reader of the demands may pass over this folder.
pub mod Letters
pub mod Maps
pub mod Plan
pub mod Planning
pub mod Chart
pub mod Filling
pub mod Ready
