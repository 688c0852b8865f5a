pub mod Text
pub mod Marks
pub mod Held
pub mod Frames
pub mod Given
pub mod Cap
pub mod Cases
