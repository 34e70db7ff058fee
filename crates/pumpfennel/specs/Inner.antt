-- Contracts of inner functions. What the calls promise is said without them, so a reader of the demands may pass over this folder.
pub mod Says
