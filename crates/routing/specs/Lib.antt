pub mod Plain
pub mod ThreeJudged
pub mod Tabling
pub mod TableSet
pub mod Wanting
pub mod Sought
pub mod RouteAnswers
