pub mod Loops
pub mod Placed
pub mod Spelling
pub mod Steps
pub mod Whole
