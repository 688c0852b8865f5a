pub mod Line
pub mod Lines
pub mod Faults
pub mod Hex
pub mod Listed
pub mod Through
pub mod Text
pub mod Parts
