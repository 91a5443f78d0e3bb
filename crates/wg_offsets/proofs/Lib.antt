pub mod WordsLemmas
pub mod PlacesLemmas
pub mod OneFile
pub mod Differences
pub mod ErrorLemmas
pub mod ComparingLemmas
pub mod SamplesLemmas
