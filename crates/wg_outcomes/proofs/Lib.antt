pub mod BuildLemmas
pub mod FileLemmas
pub mod PerformsLemmas
pub mod RankLemmas
pub mod Statuses
pub mod SureLemmas
pub mod VerifyLemmas
pub mod WritingLemmas
