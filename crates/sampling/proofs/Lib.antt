-- The laws of *Left* and *Draw*, and demand 3.
pub mod Barred
pub mod Spans
pub mod Listed
pub mod Skipping
pub mod Collect
pub mod Readying
pub mod Asking
pub mod Answering
pub mod Premises
pub mod Demand3
pub mod Blanks
pub mod Examples
