-- What the manuals and this project's own rules say. The laws and the contracts of this crate cite these definitions.
pub mod Days
pub mod LocalSecond
pub mod OffsetText
pub mod OffsetWord
pub mod Weekday
pub mod ZoneName
