pub mod Names
pub mod PlacesBehind
pub mod PlansMade
pub mod SendableLemmas
