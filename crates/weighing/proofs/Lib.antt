-- The laws of the draw by weights.
pub mod Tickets
pub mod Weighing
pub mod Laws
pub mod Writing
pub mod Before
pub mod Summing
pub mod Tallying
pub mod Asking
pub mod Firsts
pub mod Told
pub mod Preparing
pub mod Examples
