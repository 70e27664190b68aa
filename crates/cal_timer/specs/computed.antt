-- Definitions that follow the code: what each step computes, and what the code's values stand for at that point. Laws
-- and contracts tie them to the definitions in `rules`.
pub mod ResumedLists
