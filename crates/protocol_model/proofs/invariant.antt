-- What always holds of a client and a server that lines join, and the facts that the events rely on.
pub mod Served
pub mod Holding
pub mod Pairs
pub mod Moves
pub mod LineFacts
pub mod Touching
