pub mod Quotient
pub mod Classes
pub mod Added
pub mod Graphs
pub mod Laws
