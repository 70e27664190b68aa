-- What the manuals and this project's own rules say. The laws and the contracts of this crate cite these definitions.
pub mod Destinations
pub mod DropIns
pub mod Files
pub mod Folders
pub mod Index
pub mod Names
pub mod SearchFolders
pub mod SearchPath
pub mod Settings
pub mod Starts
pub mod UnitName
pub mod Units
