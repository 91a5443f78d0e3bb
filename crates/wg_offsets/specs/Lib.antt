pub mod Places
pub mod Words
pub mod Stages
pub mod Errors
pub mod Comparing
pub mod Sampling
pub mod Laws
