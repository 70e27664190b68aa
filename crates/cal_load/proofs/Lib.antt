pub mod CalendarLemmas
mod CalendarRows
mod FileRows
pub mod ExpressionLemmas
pub mod FileFaultLemmas
pub mod FileLemmas
pub mod GuardLemmas
pub mod IgnoredSettingLemmas
pub mod NoteLemmas
mod NoteRows
pub mod PathLemmas
pub mod PositionLemmas
pub mod ReadableLemmas
mod ReadableRows
pub mod ResolvedLemmas
pub mod MentionLemmas
mod GuardRows
pub mod SpecifierLemmas
mod SpecifierRows
pub mod TextFaultLemmas
pub mod TextLemmas
pub mod TimerLemmas
pub mod TimingLemmas
mod TimingRows
pub mod UnitLemmas
pub mod UnusableZoneLemmas
pub mod ZonedTimerLemmas
