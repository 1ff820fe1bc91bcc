pub mod Bytes
pub mod Answer
pub mod NumberRead
pub mod Section
pub mod Fields
pub mod InTurn
pub mod Reached
pub mod ReadingLoop
