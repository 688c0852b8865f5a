pub mod Lists
pub mod Calls
pub mod Log
pub mod Demand
pub mod Places
pub mod Content
