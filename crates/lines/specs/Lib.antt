pub mod Ends
pub mod Found
pub mod Kept
pub mod ReadSoFar
pub mod NearRoots
pub mod Said
pub mod Limit
