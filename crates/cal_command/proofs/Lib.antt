pub mod CommandLineLemmas
pub mod OptionLemmas
pub mod WorkedRows
