pub mod Buffer
pub mod Building
pub mod Good
pub mod Clean
pub mod Faithful
