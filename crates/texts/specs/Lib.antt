pub mod PutText
pub mod Decimals
pub mod Wanted
pub mod StepTexts
pub mod BranchTexts
pub mod Puts
