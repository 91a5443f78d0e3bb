pub mod Codes
pub mod Parameters
pub mod Keys
