pub mod Held
pub mod Fields
pub mod Greedy
pub mod Archive
pub mod Laws
