pub use Rattle.cal_bytes.specs.computed as BytesComputed
pub use Rattle.cal_bytes.specs.rules as BytesRules
pub use Rattle.cal_civil.specs.computed as CivilComputed
pub use Rattle.cal_civil.specs.rules as CivilRules
pub use Rattle.cal_span.specs.computed as SpanComputed
pub use Rattle.cal_span.specs.rules as SpanRules
pub use Rattle.cal_zone.specs.computed as ZoneComputed
pub use Rattle.cal_zone.specs.rules as ZoneRules
