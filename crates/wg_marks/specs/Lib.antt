pub mod Masks
pub mod Marked
pub mod Spans
pub mod Common
