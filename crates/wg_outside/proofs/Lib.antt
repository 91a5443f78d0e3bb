pub mod FilesLemmas
pub mod PieceLemmas
pub mod PutsLemmas
pub mod RefusalLemmas
pub mod SuffixLemmas
pub mod LoadLemmas
