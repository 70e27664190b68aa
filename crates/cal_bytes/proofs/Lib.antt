pub mod DigitLemmas
pub mod General
pub mod Pieces
pub mod PutLemmas
pub mod ShortText
pub mod TrimLemmas
pub mod WordLemmas
