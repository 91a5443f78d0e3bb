pub mod Cost
pub mod Dues
pub mod Sharing
pub mod Encoding
pub mod InMemory
pub mod Gone
pub mod ArchiveInMemory
