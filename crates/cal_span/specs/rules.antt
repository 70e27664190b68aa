-- What the manuals and this project's own rules say. The laws and the contracts of this crate cite these definitions.
pub mod PairValue
pub mod SpanFault
pub mod SpanRule
pub mod SpanText
pub mod SpanTextRule
pub mod TimeUnit
pub mod UnitSpellings
