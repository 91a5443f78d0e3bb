pub mod Coming
pub mod Fronts
pub mod Ahead
pub mod Least
pub mod Passing
pub mod Fields
pub mod Below
