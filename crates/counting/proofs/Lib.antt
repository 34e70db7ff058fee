-- The laws of totals, for the crates above. Of a function's goals those that the check
-- finds by itself have no answer.
pub mod Totals
pub mod Lettered
pub mod Needed
pub mod Sentences
pub mod Counts
pub mod OneLength
pub mod Ten
pub mod Finding
pub mod PairSums
pub mod InOrder
pub mod Filling
pub mod Besides
pub mod Tabled
pub mod Preparing
pub mod Walks
pub mod Choosers
pub mod Asking
