pub mod Outside
pub mod FileLaws
pub mod Reads
pub mod Puts
pub mod Refusals
pub mod Later
pub mod Suffixes
