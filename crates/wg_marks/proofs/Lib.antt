pub mod Changed
pub mod Places
pub mod Found
pub mod Kept
pub mod Fours
