-- What the manuals and this project's own rules say. The laws and the contracts of this crate cite these definitions.
pub mod Questions
pub mod Texts
pub mod Verbs
pub mod CommandLine
pub mod VerbFirst
pub mod OptionValues
pub mod Asked
pub mod WorkedQuestions
