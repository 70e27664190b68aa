pub mod MergeLemmas
pub mod OrderLemmas
pub mod RisingLemmas
pub mod WithoutLemmas
