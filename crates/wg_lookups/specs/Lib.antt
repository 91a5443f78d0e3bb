pub mod ChainFiles
pub mod ChainLaws
pub mod Sampling
pub mod Showing
pub mod Spotting
