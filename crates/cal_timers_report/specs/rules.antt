-- What the standards (RFC 8259, ECMA-48) and this project's own rules say about reports. The contracts of this crate
-- cite these definitions.
pub mod BetweenText
pub mod Columns
pub mod Documents
pub mod DueText
pub mod Emphasis
pub mod JsonParts
pub mod JsonTimes
pub mod ListTable
pub mod PrintableText
pub mod ReportView
pub mod SameText
pub mod ShowText
pub mod TimeLeft
