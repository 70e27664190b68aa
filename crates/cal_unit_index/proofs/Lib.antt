mod DropInRows
mod SearchPathRows
mod StartRows
mod UnitRows
pub mod DropInLemmas
pub mod FolderLemmas
pub mod FollowLemmas
pub mod IndexLemmas
pub mod SearchFolderLemmas
pub mod SearchPathLemmas
pub mod StartLemmas
pub mod UnitNameLemmas
pub mod WordLemmas
