pub mod CommandLemmas
pub mod OptionLemmas
pub mod VerbFirstLemmas
pub mod AskedLemmas
pub mod WorkedRows
