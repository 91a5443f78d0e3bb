pub mod CountingLemmas
pub mod EncodingLemmas
pub mod UnionJobs
