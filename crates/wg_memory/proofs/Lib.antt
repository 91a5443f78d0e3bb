pub mod ListsLemmas
pub mod ManyLemmas
pub mod WritingLemmas
pub mod RangeLemmas
