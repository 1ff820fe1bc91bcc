pub mod EntryMembers
pub mod Weighing
pub mod Each
pub mod FairJudged
