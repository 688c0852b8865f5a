pub mod Decimal
pub mod Put
pub mod Only
pub mod Pages
