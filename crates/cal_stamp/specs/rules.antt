-- What the manuals and this project's own rules say. The laws and the contracts of this crate cite these definitions.
pub mod StampCivilRule
pub mod StampDate
pub mod StampFault
pub mod StampFaultRule
pub mod StampMomentRule
pub mod StampPrinted
pub mod StampRule
pub mod StampTime
pub mod StampViews
