pub mod OverBlock
pub mod PlaceSearch
pub mod Tests
pub mod Questions
pub mod PairNotes
pub mod LayingLoops
