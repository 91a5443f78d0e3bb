pub mod Transposed
pub mod SoFar
pub mod Transposing
pub mod Runs
pub mod Held
pub mod Laws
pub mod Listed
pub mod Grown
