pub mod Demand
pub mod Places
pub mod Content
pub mod RuledOut
