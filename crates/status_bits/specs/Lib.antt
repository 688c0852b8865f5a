pub mod Status
pub mod Interrupt
