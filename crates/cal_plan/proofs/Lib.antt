pub mod AddedLemmas
pub mod ElapseInstants
pub mod PlanLemmas
