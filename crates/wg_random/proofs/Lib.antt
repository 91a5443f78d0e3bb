pub mod Readings
pub mod ArchiveLemmas
pub mod ChainLemmas
pub mod Matching
mod Answered
pub mod SpotLemmas
pub mod SpotMoves
pub mod SpotAgree
pub mod SpotFew
