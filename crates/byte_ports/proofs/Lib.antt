pub mod Moved
pub mod StoredLemmas
