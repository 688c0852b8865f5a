pub mod Pattern
pub mod Folds
pub mod Counted
pub mod Answers
pub mod Only
