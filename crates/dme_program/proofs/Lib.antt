pub mod Blaming
