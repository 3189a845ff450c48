-- What a mark does to the open commands of a client, the language that the table of marks accepts, and the tags that are drawn.
pub mod Basics
pub mod Walks
pub mod Counts
pub mod Replying
pub mod Asking
pub mod Drawing
pub mod NextNumber
pub mod Speaking
