pub mod OwnFormat
pub mod Reading
pub mod Only
