mod LocalTimeLemmas
mod WidthLemmas
pub mod JsonLemmas
pub mod RowLemmas
