pub mod Names
pub mod PlanLemmas
