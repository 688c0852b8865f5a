pub mod Ring
pub mod Only
pub mod Bounds
