pub mod Answers
pub mod Laid
pub mod Builders
pub mod Meant
