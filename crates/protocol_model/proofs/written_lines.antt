-- Lines that can be written, and what they read back as.
pub mod Writable
pub mod PlainClient
pub mod Streams
pub mod LineTaking
