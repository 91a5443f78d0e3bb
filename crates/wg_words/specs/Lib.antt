pub mod Asked
pub mod Commands
pub mod Files
pub mod Jobs
pub mod Layouts
pub mod Pairs
pub mod Values
