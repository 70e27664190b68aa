mod FaultRows
mod LengthLemmas
mod NormalFieldsLemmas
mod NormalRows
mod OrderLemmas
mod ReadBack
mod ReadBackWeekdays
mod ReadingRows
mod SuffixRows
mod ReducedLemmas
mod TextLemmas
mod WeekdayLemmas
pub mod ComponentFaults
pub mod ComponentLemmas
pub mod ComponentRule
pub mod DateFaults
pub mod DateRule
pub mod ExprRule
pub mod FaultSpanLemmas
pub mod FieldLemmas
pub mod GrammarFaults
pub mod MemberLemmas
pub mod NormalLemmas
pub mod PartFaults
pub mod PartRule
pub mod ReadBackParts
pub mod ReadLemmas
pub mod SuffixLemmas
pub mod SymbolLemmas
pub mod TrailingBlanks
pub mod WeekdayRule
pub mod WholeRule
pub mod WordRule
pub mod WordsBetween
