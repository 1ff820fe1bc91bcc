pub mod TableSection
pub mod TableJudged
