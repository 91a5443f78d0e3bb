pub mod Growing
pub mod Laws
pub mod Listing
pub mod NumberTexts
pub mod Numbers
pub mod Reading
pub mod Text
