-- A link that was broken anywhere is brought to its end by quiet rounds.
pub mod Hears
pub mod Jobs
pub mod Joining
pub mod Phases
pub mod Rejoining
pub mod Bounded
pub mod Ready
pub mod Succeeding
pub mod Going
pub mod Finished
pub mod Reaching
