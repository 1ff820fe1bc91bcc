pub mod Shortened
pub mod Largest
pub mod Saving
pub mod Finding
pub mod Rows
pub mod Changing
pub mod Counting
