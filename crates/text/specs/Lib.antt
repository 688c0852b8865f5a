pub mod Decimal
pub mod Put
pub mod Laying
pub mod Page
