pub mod AcceptedLemmas
pub mod CommandLemmas
pub mod FaultLemmas
pub mod NumberLemmas
pub mod ValueLemmas
pub mod UseLemmas
pub mod WalkLemmas
