pub mod FirstFault
pub mod HoldLemmas
pub mod LineLemmas
pub mod NumberLines
pub mod PrintLemmas
pub mod ReadingLemmas
