pub mod LabelPlaces
pub mod LabelSection
pub mod LabelLoops
pub mod LabelNumbered
pub mod WrittenLabels
