pub mod Turns
pub mod FittingTurns
pub mod Names
pub mod Courses
