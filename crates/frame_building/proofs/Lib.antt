pub mod Buffer
pub mod Judged
pub mod Fields
pub mod RoundTrip
pub mod Ways
pub mod Worked
pub mod Only
