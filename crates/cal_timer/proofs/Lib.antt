mod KeyRows
mod TimerRows
pub mod GroupLemmas
pub mod LineLemmas
pub mod LineRuleLemmas
pub mod ListedLemmas
pub mod LogicalRuleLemmas
pub mod ResumedLemmas
pub mod TimerLemmas
pub mod TimerRuleLemmas
