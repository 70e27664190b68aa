pub mod computed
pub mod rules
