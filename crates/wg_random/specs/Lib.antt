pub mod Checked
pub mod Chain
pub mod Answer
pub mod Checking
pub mod Spot
pub mod SpotLaws
