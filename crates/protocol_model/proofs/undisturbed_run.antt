-- A run that nothing disturbs follows its plan.
pub mod Following
pub mod Homing
pub mod Counting
pub mod ServerHoming
pub mod PlaceTags
pub mod UndisturbedClient
pub mod UndisturbedRun
