pub mod DocumentSection
pub mod DocumentJudged
pub mod LabelNumbers
