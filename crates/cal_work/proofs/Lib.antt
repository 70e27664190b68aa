pub mod LawLemmas
pub mod EndLemmas
pub mod WorkLemmas
pub mod WorkedRows
pub mod AskedLemmas
pub mod ProgramLemmas
