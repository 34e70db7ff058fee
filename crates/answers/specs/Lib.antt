pub mod Answer
pub mod Length
pub mod Voice
pub mod Inner
