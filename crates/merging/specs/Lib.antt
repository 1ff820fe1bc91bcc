pub mod PairWalk
pub mod Bodies
pub mod Walks
pub mod Merges
pub mod Packing
