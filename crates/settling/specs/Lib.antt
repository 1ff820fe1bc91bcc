pub mod Placing
pub mod Removing
pub mod JoinedEntries
pub mod Pairs
pub mod Settled
pub mod SettlingLoop
