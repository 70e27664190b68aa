mod StampRows
pub mod StampCivilRuleLemmas
pub mod StampCounted
pub mod StampFaultRuleLemmas
pub mod StampFaults
pub mod StampLemmas
pub mod StampMomentRuleLemmas
pub mod StampPrintedLemmas
pub mod StampPrintedTexts
pub mod StampPrintedZones
pub mod StampRuleLemmas
