-- What the manuals and this project's own rules say. The laws and the contracts of this crate cite these definitions.
pub mod AddedZones
pub mod Civil
pub mod CivilAt
pub mod FixedOffsetZone
pub mod Instant
pub mod InstantText
pub mod LoadFault
pub mod LoadZone
pub mod Place
pub mod Rules
pub mod Setting
pub mod Zone
pub mod ZoneArgument
pub mod ZoneFault
pub mod ZoneFile
pub mod ZoneTable
