-- What the manuals and this project's own rules say. The laws and the contracts of this crate cite these definitions.
pub mod Covered
pub mod Elapses
pub mod ElapsesAfter
pub mod ExaminedMonths
pub mod Months
pub mod MostMonths
pub mod Search
