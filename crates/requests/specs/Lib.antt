pub mod Table
pub mod Kept
pub mod Scoped
pub mod Listed
pub mod Hops
pub mod Called
pub mod Promised
