pub mod Copying
pub mod CopyingLoop
pub mod Branches
pub mod Staying
pub mod Offers
pub mod Candidates
