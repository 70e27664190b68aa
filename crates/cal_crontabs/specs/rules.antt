-- Which crontabs are read, and the report of their entries. The contracts of this crate cite these definitions.
pub mod CrontabFiles
pub mod Crontabs
pub mod Document
pub mod Entries
pub mod EntryText
pub mod ErrorLines
pub mod Findings
