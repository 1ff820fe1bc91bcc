pub mod Taken
pub mod TakenRead
pub mod Subscribed
