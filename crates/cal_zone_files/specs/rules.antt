-- What the manuals and this project's own rules say. The contracts of this crate cite these definitions.
pub mod LocalZone
pub mod ZoneFiles
