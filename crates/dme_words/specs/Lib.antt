pub mod CommandLine
pub mod Folders
pub mod Answers
pub mod Ordered
pub mod Arguments
