pub mod Generated
pub mod Laws
pub mod Usual
pub mod Spelled
