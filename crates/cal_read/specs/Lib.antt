pub mod computed
pub mod rules
pub use Rattle.cal_stamp.specs.computed as StampComputed
pub use Rattle.cal_stamp.specs.rules as StampRules
pub use Rattle.cal_timer.specs.computed as TimerComputed
pub use Rattle.cal_timer.specs.rules as TimerRules
