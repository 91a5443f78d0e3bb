pub mod Numbers
pub mod Faults
pub mod Answers
pub mod Ranks
pub mod Many
