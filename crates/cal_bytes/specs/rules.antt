-- What the manuals and this project's own rules say. The laws and the contracts of this crate cite these definitions.
pub mod AndThen
pub mod Bytes
pub mod Fill
pub mod Output
pub mod Puts
pub mod Separators
pub mod Trim
pub mod TrimRule
pub mod Whole
pub mod Writes
