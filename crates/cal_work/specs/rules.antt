-- What the manuals and this project's own rules say. The laws and the contracts of this crate cite these definitions.
pub mod FileAnswer
pub mod Outcome
pub mod ProgramHeadline
pub mod Stop
pub mod WorkLaw
pub mod Works
