-- When cron runs a line: crontab(5).
use Rattle.std.specs.Prelude.{ℕ, ◌≡◌, ◌*◌, ◌≤◌, ◌+◌, ◌-◌, ◌/◌, ◌%◌, ◌==◌, Bool, false, ◌&&◌, ◌||◌, nat_le, nat_lt, if◌then◌else◌, List, ◌∷◌, Option, None, Some, map}
use Rattle.std.specs.List.{list_any}
use Rattle.std.specs.Option.{option_to_list}
use Rattle.jiff_core.specs.declared.civil.date.Date.{Date}
use Rattle.jiff_core.specs.Date.{weekday_of}
use Rattle.cal_civil.specs.rules.LocalSecond.{civil_date, hour_of, minute_of, second_of, seconds_in_all, seconds_per_day}
use Rattle.cal_spec.specs.rules.ExprText.{expr_text}
use Rattle.cal_spec.specs.rules.Fields.{Fields}
use Rattle.cal_spec.specs.rules.Match.{matches}
use Rattle.cal_spec.specs.rules.Members.{sets_of}
use Rattle.cal_cron.specs.rules.CronLine.{IsLine, Schedule}
use Rattle.cal_cron.specs.declared.items.CronRange.{CronRange}

-- `value` is one of the numbers `first`, `first` + `step`, .. up to `last`
abbrev pub range_has : CronRange → ℕ → Bool
range_has r value = (nat_le r.first value && nat_le value r.last) && ((value - r.first) % r.step == 0)

abbrev pub field_has : List CronRange → ℕ → Bool
field_has rs value = list_any (λ r. range_has r value) rs

-- whether the field has the weekday, counted from 0 for Monday; in the field, Monday is 1, and Sunday is 0 or 7
abbrev pub weekday_has : List CronRange → ℕ → Bool
weekday_has rs day = field_has rs ((day + 1) % 7) || ((day == 6) && field_has rs 7)

-- the day matches: both the day of the month and the weekday match if one of these fields begins with `*`, and
-- otherwise at least one of the two matches
abbrev pub day_matches : Bool → Bool → Bool → Bool
day_matches star day weekday = if star then day && weekday else day || weekday

unfoldable pub cron_date : Schedule → Date → Bool
cron_date s date =
    field_has s.month date.month && day_matches s.star (field_has s.day date.day) (weekday_has s.weekday (weekday_of date))

-- the time that is `second` seconds after midnight matches; cron runs lines at second 0 of a minute
unfoldable pub cron_time : Schedule → ℕ → Bool
cron_time s second =
    field_has s.hour (hour_of second) && (field_has s.minute (minute_of second) && (second_of second == 0))

-- the local second is in the years 1970 to 2199, and cron runs the line then
unfoldable pub cron_matches : Schedule → ℕ → Bool
cron_matches s local =
    nat_lt local seconds_in_all
    && (cron_date s (civil_date (local / seconds_per_day)) && cron_time s (local % seconds_per_day))

-- the expressions of a line: one, or two if the days of the month and the weekdays need an expression each
pub record CronExprs : Type 0 where
  pub first : Fields
  pub other : Option Fields

-- the expressions of a line as texts, in normal form (systemd.time(7), Calendar Events)
abbrev pub expression_texts : CronExprs → List (List ℕ)
expression_texts exprs = expr_text exprs.first ∷ map expr_text (option_to_list exprs.other)

abbrev pub other_matches : Option Fields → ℕ → Bool
other_matches None local = false
other_matches (Some f) local = matches (sets_of f) local

-- one of the expressions matches
abbrev pub exprs_match : Fields → Option Fields → ℕ → Bool
exprs_match first other local = matches (sets_of first) local || other_matches other local

-- The text is the time fields of a crontab line, and at each local second one of the expressions matches if and only if
-- cron runs the line.
pub record RunsAs (text : List ℕ) (first : Fields) (other : Option Fields) : Type 0 where
  pub schedule : Schedule
  pub line : IsLine text schedule
  pub same : (local : ℕ) → exprs_match first other local ≡ cron_matches schedule local

-- `count` steps lead from `first` to `value`, which isn't above `last`
pub record IsReached (r : CronRange) (value : ℕ) : Type 0 where
  pub count : ℕ
  pub is : value ≡ r.first + count * r.step
  pub within : value ≤ r.last
