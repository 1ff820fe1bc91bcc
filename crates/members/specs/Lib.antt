pub mod Fitting
pub mod MemberBytes
