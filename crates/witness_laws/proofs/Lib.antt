pub mod Names
pub mod orders
pub mod server
pub mod client
pub mod machines
