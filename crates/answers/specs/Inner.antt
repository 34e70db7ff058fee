-- What the promises of inner functions use. What the calls promise is said without them, so a reader of the demands may pass over this folder.
pub mod Refusals
pub mod Results
