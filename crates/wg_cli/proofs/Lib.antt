pub mod KeyNames
pub mod ProvenLemmas
pub mod SteadyLemmas
pub mod LineLemmas
pub mod RunLemmas
