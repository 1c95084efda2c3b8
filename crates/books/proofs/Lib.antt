pub mod Made
pub mod Below
pub mod Starts
pub mod Verdicts
pub mod Own
pub mod Walks
pub mod Shown
pub mod Complete
