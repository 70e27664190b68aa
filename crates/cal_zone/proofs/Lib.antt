pub mod CivilLemmas
pub mod DigitLemmas
pub mod FormattedDayLemmas
pub mod InstantOffsetRangeLemmas
pub mod LocalAtLemmas
pub mod LocalOffsetRangeLemmas
pub mod OffsetLemmas
pub mod PlaceLemmas
pub mod RuleLemmas
pub mod SameOffsetLemmas
pub mod WeekdayLemmas
pub mod YearLemmas
mod ZoneArgumentRows
pub mod ZoneLemmas
pub mod ZoneMapLemmas
