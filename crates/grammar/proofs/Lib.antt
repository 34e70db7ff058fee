-- The laws of grammars. Crates above cite those of derivations (Enumeration, Order, Plain), of walks (Walks), of the table of rules (Ruling) and
-- of its links (Linking, Keyed). Of a function's goals those that the check
-- finds by itself have no answer.
pub mod Choices
pub mod Enumeration
pub mod Order
pub mod Plain
pub mod Acceptance
pub mod Walks
pub mod Entering
pub mod Repeats
pub mod Outcome
pub mod Ruling
pub mod Kept
pub mod Holding
pub mod Linking
pub mod Keyed
