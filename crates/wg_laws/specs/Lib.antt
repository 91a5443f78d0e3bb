pub mod Built
pub mod Certificates
pub mod Judgements
pub mod Quotients
pub mod Rounds
pub mod Spotted
pub mod Unions
