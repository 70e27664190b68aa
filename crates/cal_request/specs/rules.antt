-- What the manuals and this project's own rules say. The laws and the contracts of this crate cite these definitions.
pub mod Request
pub mod RequestKind
pub mod RequestView
pub mod Status
pub mod Verb
