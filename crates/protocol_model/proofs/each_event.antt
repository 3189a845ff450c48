-- Each event keeps the invariant, where lines are carried as values.
pub mod Answers
pub mod ReadEvent
pub mod FrontEvent
pub mod WorkEvent
pub mod ServerEvents
pub mod ClientEvents
pub mod ClientWrites
pub mod ClientResumes
pub mod HearEvent
pub mod Hearing
pub mod Constant
pub mod Whole
