pub mod Patterns
pub mod Shapes
pub mod Nodes
pub mod Steps
pub mod Holding
pub mod TableValues
pub mod Summing
