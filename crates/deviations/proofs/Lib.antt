pub mod Names
pub mod Roots
pub mod Tables
pub mod Digits
pub mod Numbers
pub mod LimitNames
