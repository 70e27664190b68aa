mod PlaceRows
pub mod KeepLemmas
pub mod PlaceLemmas
pub mod RecorderLemmas
