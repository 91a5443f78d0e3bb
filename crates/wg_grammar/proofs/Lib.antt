mod Rows
pub mod FieldCodes
pub mod Chain
pub mod Along
pub mod OneRecord
pub mod Orderly
pub mod SomeRecord
pub mod OneGraph
pub mod Tallies
pub mod Tails
pub mod ProperGraphs
pub mod Depths
pub mod CursorLemmas
pub mod ErrorLemmas
