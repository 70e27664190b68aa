pub mod DayLemmas
pub mod LocalLemmas
pub mod OffsetWordLemmas
