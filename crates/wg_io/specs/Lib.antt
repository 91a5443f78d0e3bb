pub mod Memory
pub mod Later
pub mod Held
