pub mod CommandLemmas
pub mod FileLemmas
pub mod JobLemmas
pub mod LayoutLemmas
pub mod ValueLemmas
