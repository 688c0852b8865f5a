pub mod Pattern
pub mod Answers
