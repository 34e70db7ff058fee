-- The laws of the walk. Of a function's goals those that the check
-- finds by itself have no answer.
mod Linking
mod Leaves
pub mod Joined
mod Walking
