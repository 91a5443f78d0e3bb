pub mod Flags
pub mod Judged
pub mod Pairs
pub mod Values
pub mod Words
pub mod Text
pub mod Laws
