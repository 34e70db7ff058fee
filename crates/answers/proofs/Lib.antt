-- The laws of answers, for the crates above.
pub mod Refusals
pub mod Numbers
pub mod Results
