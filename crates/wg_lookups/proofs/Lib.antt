pub mod LentLemmas
pub mod SamplingLemmas
pub mod ShowJobs
pub mod ShownLemmas
pub mod SpotJobs
pub mod SpotTicks
