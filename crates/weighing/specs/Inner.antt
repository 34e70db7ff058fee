-- Contracts of inner functions. What the call promises is said without them, so a reader of the demands may pass over this folder.
pub mod Tables
pub mod Sums
pub mod Preparing
