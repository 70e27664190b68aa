-- What this project's own rules say about options. The contracts of this crate cite these definitions.
pub mod Arguments
pub mod ArgumentFault
pub mod OptionNumbers
pub mod Values
