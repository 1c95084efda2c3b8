pub mod Items
pub mod Covers
pub mod Steps
pub mod Links
pub mod Places
pub mod Runs
pub mod Blanks
pub mod Whole
