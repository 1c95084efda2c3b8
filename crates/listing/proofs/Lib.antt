pub mod Lines
pub mod Written
pub mod Unfenced
pub mod Truths
