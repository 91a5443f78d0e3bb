pub mod Growing
pub mod Laws
pub mod Reading
pub mod Text
