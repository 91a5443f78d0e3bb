pub mod BulkLemmas
pub mod ImportJobs
pub mod ImportingLemmas
pub mod ListedJobs
pub mod ListingLemmas
pub mod TextJobs
