-- Definitions that follow the code: what each step computes, and what the code's values stand for at that point. Laws
-- and contracts tie them to the definitions in `rules`.
pub mod Bits
pub mod Masks
pub mod RemainingElapses
pub mod RemainingMatches
pub mod Ring
pub mod SearchResult
pub mod SearchStart
pub mod SearchSteps
pub mod Searched
pub mod Window
