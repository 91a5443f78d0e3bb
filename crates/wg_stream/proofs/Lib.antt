pub mod PrefixLemmas
pub mod ErrorLemmas
pub mod ReadingLemmas
pub mod AllRecords
pub mod AcceptedRecords
pub mod SweepLemmas
pub mod SpotOne
pub mod SpotSome
