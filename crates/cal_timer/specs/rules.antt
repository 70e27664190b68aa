-- What the manuals and this project's own rules say. The laws and the contracts of this crate cite these definitions.
pub mod Assignments
pub mod Keys
pub mod LineRule
pub mod LineView
pub mod Lines
pub mod LogicalRule
pub mod TimerEntries
pub mod TimerFault
pub mod TimerRule
pub mod TimerText
pub mod TimerView
