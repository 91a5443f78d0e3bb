pub mod Encoded
pub mod Imported
pub mod Listed
