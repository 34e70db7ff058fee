-- The laws of charts. Of a function's goals those that the check
-- finds by itself have no answer.
mod Gathering
mod Spreading
pub mod Placing
mod Assembling
pub mod Mapping
mod Growing
mod Walking
mod Words
mod Adding
mod Clearing
mod Making
mod Cutting
mod Totalling
mod Charting
