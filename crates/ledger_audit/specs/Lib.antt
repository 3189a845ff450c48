pub mod Rows
pub mod Shifts
pub mod Verdicts
pub mod Names
