pub mod Answers
pub mod Decisions
