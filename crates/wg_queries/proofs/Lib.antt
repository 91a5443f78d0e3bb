pub mod CertifyLemmas
pub mod CheckLemmas
pub mod PrintedJobs
pub mod PrintedLines
pub mod RankJobs
pub mod UntoldLemmas
pub mod VerifyJobs
