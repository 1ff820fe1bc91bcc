pub mod MemberTexts
pub mod Room
pub mod Enough
