-- What the manuals and this project's own rules say. The laws and the contracts of this crate cite these definitions.
pub mod Answer
pub mod BaseTime
pub mod Context
pub mod ElapseLines
pub mod Headline
pub mod ReportLines
pub mod Resume
pub mod RunReport
pub mod TextReport
pub mod TimerReport
