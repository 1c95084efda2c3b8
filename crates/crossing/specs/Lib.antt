pub mod Offers
pub mod Scopes
pub mod Crossed
