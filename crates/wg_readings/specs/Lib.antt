pub mod Finding
pub mod Loading
pub mod Pairing
pub mod Passes
