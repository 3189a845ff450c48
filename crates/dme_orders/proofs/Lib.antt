pub mod CheckLemmas
pub mod Names
pub mod LinesShown
pub mod LoopingLemmas
pub mod OrderLemmas
pub mod ReadingLemmas
pub mod RecordLemmas
pub mod TextReads
