pub mod Ring
pub mod Byte
