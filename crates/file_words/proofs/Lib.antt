pub mod Page
pub mod Refused
pub mod Cap
pub mod Cases
