-- What the manuals and this project's own rules say. The laws and the contracts of this crate cite these definitions.
pub mod Machine
pub mod Places
pub mod Prefix
pub mod Recorded
pub mod RecordedLemmas
pub mod Recording
pub mod Seen
pub mod Told
