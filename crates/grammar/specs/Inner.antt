-- Contracts of inner functions. What the calls promise is said without them, so a reader of the demands may pass over this folder.
pub mod Says
pub mod Rules
pub mod Links
pub mod Reading
pub mod Steps
pub mod Checks
pub mod Entering
pub mod Linking
