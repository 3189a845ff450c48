pub mod Asking
pub mod Begun
pub mod Names
pub mod Naming
pub mod Openings
pub mod Noting
