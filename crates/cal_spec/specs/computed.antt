-- Definitions that follow the code: what each step computes, and what the code's values stand for at that point. Laws
-- and contracts tie them to the definitions in `rules`.
pub mod Components
pub mod DateAndTime
pub mod Expr
pub mod Grammar
pub mod NormalParts
pub mod ParsedSuffix
pub mod Parts
pub mod Reads
pub mod Views
pub mod WeekdayLists
pub mod Words
