pub mod CrontabViews
pub mod Items
pub mod Lines
pub mod Schedules
pub mod Translation
