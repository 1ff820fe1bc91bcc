pub mod SheetPlaces
pub mod StepSection
pub mod ClimbingLoop
pub mod SheetSection
pub mod SheetJudged
