-- The theorems of the table, for the crates above.
pub mod Rules
pub mod Counts
pub mod Single
