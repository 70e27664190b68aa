-- Definitions that follow the code: what each step computes, and what the code's values stand for at that point.
-- Contracts of private functions cite them; those of public functions cite the definitions in `rules`.
pub mod AtInstant
pub mod ClockShift
pub mod KeptNotes
pub mod LastSearch
