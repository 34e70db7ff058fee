-- The laws of histories. Crates above cite those of accepted histories (Acceptance, Chain, Reading) and of *Log* (Appended).
pub mod Acceptance
pub mod Chain
pub mod Reading
pub mod Outcome
pub mod Writing
pub mod Appended
