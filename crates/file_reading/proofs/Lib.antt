pub mod Reader
pub mod Format
pub mod Cap
pub mod Only
