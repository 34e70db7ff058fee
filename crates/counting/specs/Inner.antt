-- Contracts of inner functions. What the calls promise is said without them, so a reader of the demands may pass over this folder.
pub mod Says
pub mod Sentences
pub mod Letters
pub mod Counted
pub mod Needs
pub mod Preparing
pub mod Filling
pub mod InOrder
pub mod Owned
