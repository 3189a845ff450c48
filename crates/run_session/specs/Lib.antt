pub mod ErrorRows
pub mod Errors
pub mod Ends
pub mod Killed
pub mod Evidence
pub mod Records
pub mod Statuses
pub mod Progress
