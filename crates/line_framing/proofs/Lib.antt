pub mod Names
pub mod Lanes
pub mod Blocks
pub mod Buffers
pub mod CallLists
pub mod Cuts
pub mod FirstLine
pub mod Streams
