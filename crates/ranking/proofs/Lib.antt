-- The laws of *Give* and *Number*, and demand 2.
pub mod Inside
pub mod Weighing
pub mod Finding
pub mod Answering
pub mod Demand2
