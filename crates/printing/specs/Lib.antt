pub mod MemberTexts
pub mod TableTexts
pub mod Room
pub mod Printed
