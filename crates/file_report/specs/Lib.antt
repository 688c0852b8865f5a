pub mod Text
pub mod Length
pub mod Held
