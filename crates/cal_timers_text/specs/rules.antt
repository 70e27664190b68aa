-- What the manuals and this project's own rules say. The contracts of this crate cite these definitions.
pub mod ErrorLines
pub mod FlawWords
pub mod LintText
pub mod Messages
pub mod ServiceText
pub mod Warnings
