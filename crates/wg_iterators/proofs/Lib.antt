pub mod LeastLemmas
pub mod CopyLemmas
pub mod PassLemmas
pub mod FrontLemmas
pub mod BelowLemmas
