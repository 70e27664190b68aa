pub mod ZoneLemmas
mod ZoneRows
