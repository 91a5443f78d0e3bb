pub mod Words
pub mod Reading
pub mod Parts
pub mod Laws
pub mod Fold
pub mod Standing
pub mod Windows
