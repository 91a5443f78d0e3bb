pub mod Kept
pub mod Pieces
pub mod Limits
mod Rows
pub mod Flagged
pub mod Lined
pub mod Letters
pub mod Reread
pub mod Reflagged
pub mod Readback
pub mod Fronts
pub mod ShortTexts
