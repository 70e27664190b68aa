-- What the manuals and this project's own rules say. The laws and the contracts of this crate cite these definitions.
pub mod Ask
pub mod CommandFault
pub mod CommandLine
pub mod OptionValues
pub mod VerbMatches
pub mod WorkedArguments
