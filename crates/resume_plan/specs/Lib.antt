pub mod Made
pub mod Sendable
pub mod Names
