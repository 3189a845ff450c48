-- What is proved of handles and calls.
pub mod Names
mod Beginning
mod Boxed
mod Calls
mod Cores
mod Making
mod Ours
