pub mod LintLemmas
pub mod PlaceLemmas
pub mod PushLemmas
