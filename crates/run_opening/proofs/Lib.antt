pub mod Names
pub mod Beginnings
pub mod Begun
pub mod Comparing
