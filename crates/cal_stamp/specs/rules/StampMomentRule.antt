-- Which moment a timestamp resolves to, stated as a rule and not as a computation: systemd.time(7), Parsing Timestamps.
-- The laws in `cal_stamp::laws`, statements that are proved for all texts, say that the functions of `Stamp` follow
-- this rule.
use Rattle.std.specs.Prelude.{ℕ, ◌≡◌, ◌+◌, ◌*◌, ◌<◌, ℤ, pos, ◌+ℤ◌, ◌-ℤ◌, ◌*ℤ◌, ◌≤ℤ◌, ◌<ℤ◌, List, Option, None, Some, Ok}
use Rattle.std.specs.Option.{option_to_list}
use Rattle.jiff.specs.Types.{TimeZone, Weekday}
use Rattle.jiff_core.specs.Weekday.{monday_zero}
use Rattle.cal_span.specs.rules.SpanRule.{HasSpanValue}
use Rattle.cal_zone.specs.rules.Instant.{IsMoment, micros_of, micros_per_second}
use Rattle.cal_zone.specs.rules.Place.{settle_of}
use Rattle.cal_zone.specs.rules.Zone.{local_shown_at}
use Rattle.cal_zone.specs.rules.Setting.{Setting}
use Rattle.cal_stamp.specs.rules.StampCivilRule.{CivilStamp, IsCivilTime, NamesZone}
use Rattle.cal_stamp.specs.rules.StampRule.{Form, nothing, present, later, earlier, counted, from_today, civil, HasForm}
use Rattle.cal_civil.specs.rules.LocalSecond.{seconds_per_day}

-- ## Time spans

-- `time`, in microseconds of Unix time, is the Unix second `second` plus the time span that the text `span` stands for
abbrev pub LiesAfter : ℤ → List ℕ → ℤ → Type 0
LiesAfter second span time = (micros : ℕ) × HasSpanValue span (Ok micros) × (time -ℤ micros_of second ≡ pos micros)

-- `time`, in microseconds of Unix time, is the Unix second `second` minus the time span that the text `span` stands for
abbrev pub LiesBefore : ℤ → List ℕ → ℤ → Type 0
LiesBefore second span time = (micros : ℕ) × HasSpanValue span (Ok micros) × (micros_of second -ℤ time ≡ pos micros)

-- ## Days

-- at present, the zone's clock shows a time on this day: midnight, or less than 86,400 seconds after midnight
pub record IsPresentDay (now : ℤ) (zone : TimeZone) (day : ℤ) : Type 0 where
  pub begun : (day *ℤ pos seconds_per_day) ≤ℤ local_shown_at zone now
  pub lasts : local_shown_at zone now <ℤ (day *ℤ pos seconds_per_day +ℤ pos seconds_per_day)

-- the day of the date, or the present day in the zone if there is no date
abbrev pub IsDay : ℤ → TimeZone → Option ℤ → ℤ → Type 0
IsDay now zone None day = IsPresentDay now zone day
IsDay now zone (Some written) day = day ≡ written

-- the day is the named weekday, if one is named: 1970-01-01 was a Thursday, three days after a Monday, and weekdays
-- repeat every seven days
abbrev pub FallsOn : Option Weekday → ℤ → Type 0
FallsOn None day = Unit
FallsOn (Some weekday) day = (week : ℤ) × (day +ℤ pos 3 ≡ week *ℤ pos 7 +ℤ pos (monday_zero weekday))

-- `time` is the time to which a time of day on the day `day` is settled. `micros` is the time of day, in microseconds
-- since midnight on the zone's clock. A local time in a gap is moved forward by the length of the gap, and for a local
-- time in a fold the first occurrence is used.
pub record IsTimeOfDay (zone : TimeZone) (day : ℤ) (micros : ℕ) (time : ℤ) : Type 0 where
  pub second : ℕ
  pub rest : ℕ
  pub whole : micros ≡ second * micros_per_second + rest
  pub below : rest < micros_per_second
  pub settled : time ≡ micros_of (settle_of zone (day *ℤ pos seconds_per_day +ℤ pos second)) +ℤ pos rest

-- the time is the midnight at which a day begins, in the zone that the words stand for; this day is `shift` days after
-- the present day
pub record IsMidnight (now : ℤ) (at : Setting) (shift : ℤ) (words : List (List ℕ)) (time : ℤ) : Type 0 where
  pub name : Option (List ℕ)
  pub zone : TimeZone
  pub today : ℤ
  pub alone : words ≡ option_to_list name
  pub has_zone : NamesZone at name zone
  pub has_today : IsPresentDay now zone today
  pub is_midnight : IsTimeOfDay zone (today +ℤ shift) 0 time

-- the words are a civil time that resolves to this time; if a weekday is named, the day of the civil time is this
-- weekday
pub record IsCivilMoment (now : ℤ) (at : Setting) (words : List (List ℕ)) (time : ℤ) : Type 0 where
  pub stamp : CivilStamp
  pub day : ℤ
  pub is_civil : IsCivilTime at words stamp
  pub has_day : IsDay now stamp.zone stamp.day day
  pub falls : FallsOn stamp.weekday day
  pub is_time : IsTimeOfDay stamp.zone day stamp.micros time

-- the form stands for this time in microseconds of Unix time, whether or not the time is in the supported range
abbrev pub MeansTime : ℤ → Setting → Form → ℤ → Type 0
MeansTime now at nothing time = ⊥
MeansTime now at present time = time ≡ micros_of now
MeansTime now at (later span) time = LiesAfter now span time
MeansTime now at (earlier span) time = LiesBefore now span time
MeansTime now at (counted span) time = LiesAfter (pos 0) span time
MeansTime now at (from_today shift words) time = IsMidnight now at shift words time
MeansTime now at (civil words) time = IsCivilMoment now at words time

-- the text is a timestamp that resolves to the moment `time`, given the present second and the zones
pub record ResolvesTo (now : ℤ) (at : Setting) (text : List ℕ) (time : ℤ) : Type 0 where
  pub form : Form
  pub has_form : HasForm text form
  pub means : MeansTime now at form time
  pub in_range : IsMoment time
