pub mod Loaded
pub mod Recoding
pub mod Uniting
pub mod Encoding
pub mod Counting
