-- The same with the bytes of every connection, over every list of events.
pub mod PlainServer
pub mod Links
pub mod Wires
pub mod Carrying
pub mod CarryingClient
pub mod SameProgram
pub mod WholeRun
