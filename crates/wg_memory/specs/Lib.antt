pub mod Answers
pub mod Many
pub mod Range
pub mod Checking
pub mod Ranking
pub mod Verifying
pub mod Writing
