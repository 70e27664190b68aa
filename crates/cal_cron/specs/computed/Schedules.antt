-- Schedules whose ranges are within their fields.
use Rattle.std.specs.Prelude.{ℕ, ◌<◌, ◌≤◌, List, length}
use Rattle.std.specs.List.{AllByRecursion}
use Rattle.cal_cron.specs.rules.CronGrammar.{greatest, least, max_items}
use Rattle.cal_cron.specs.rules.CronLine.{Schedule}
use Rattle.cal_cron.specs.declared.cron_field.CronField.{CronField}
use Rattle.cal_cron.specs.declared.cron_field.CronField.TheVariants.{Minute, Hour, Day, Month, Weekday}
use Rattle.cal_cron.specs.declared.items.CronRange.{CronRange}

-- the range is between two numbers, doesn't run backwards, and has a step of at least 1
pub record IsRange (low high : ℕ) (r : CronRange) : Type 0 where
  pub from : low ≤ r.first
  pub forward : r.first ≤ r.last
  pub to : r.last ≤ high
  pub positive : 0 < r.step

pub record AreRanges (low high : ℕ) (rs : List CronRange) : Type 0 where
  pub each : AllByRecursion (IsRange low high) rs
  pub some : 0 < length rs
  pub few : length rs ≤ max_items

abbrev pub AreOf : CronField → List CronRange → Type 0
AreOf field rs = AreRanges (least field) (greatest field) rs

pub record IsSchedule (s : Schedule) : Type 0 where
  pub minute : AreOf Minute s.minute
  pub hour : AreOf Hour s.hour
  pub day : AreOf Day s.day
  pub month : AreOf Month s.month
  pub weekday : AreOf Weekday s.weekday
