pub mod Files
pub mod Kinds
pub mod Naming
pub mod Serving
pub mod Sessions
pub mod Relays
pub mod Ends
