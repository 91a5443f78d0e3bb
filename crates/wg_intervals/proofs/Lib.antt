pub mod Walks
pub mod Rows
pub mod Order
pub mod Maximal
pub mod Splits
pub mod Divided
