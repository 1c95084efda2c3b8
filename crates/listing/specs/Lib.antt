pub mod Calls
pub mod Found
pub mod Items
pub mod Pairs
pub mod Texts
pub mod Unlisted
pub mod Listing
pub mod Truth
