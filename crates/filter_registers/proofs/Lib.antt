pub mod Registers
pub mod Only
