-- How the day of an instant is printed, and days on a zone's clock as they are cached for printing.
use Rattle.std.specs.Prelude.{◌≡◌, ℕ, ℤ, pos, ◌-ℤ◌, ◌≤ℤ◌, ◌<ℤ◌, ◌≤◌, unsigned_abs, length, List, [], ◌∷◌, codes}
use Rattle.jiff.specs.Words.{IsBetween}
use Rattle.cal_bytes.specs.rules.Bytes.{joined}
use Rattle.cal_zone.specs.rules.InstantText.{instant_text, time_text, date_text, weekday_name}
use Rattle.cal_civil.specs.rules.LocalSecond.{hour_of, minute_of, second_of}
use Rattle.cal_zone.specs.declared.formatted_day.FormattedDay.{FormattedDay}
use Rattle.cal_zone.specs.declared.zone.Zone.{Zone}
use Rattle.cal_zone.specs.declared.civil_fields.Civil.{Civil}

-- the text that is printed for a time of a cached day: the day, the time and the zone; `second` is the time of day, in
-- seconds since midnight
abbrev pub text_after : FormattedDay → ℕ → List ℕ
text_after day second =
    joined (day.day.items ∷ time_text (hour_of second) (minute_of second) (second_of second) ∷ day.word.items ∷ [])

abbrev pub text_on : FormattedDay → ℤ → List ℕ
text_on day second = text_after day (unsigned_abs (second -ℤ day.midnight))

-- the cached texts of a day are short: together with the time between them, they fit into the 84 bytes that contracts
-- allow for a printed instant
pub record HasShortTexts (day : FormattedDay) : Type 0 where
  pub date : length day.day.items ≤ 26
  pub word : length day.word.items ≤ 41

-- `second` is on the cached day, and is printed with the cached texts of this day
pub record IsOnDay (zone : Zone) (day : FormattedDay) (second : ℤ) : Type 0 where
  pub since_midnight : IsBetween (pos 0) (pos 86_399) (second -ℤ day.midnight)
  pub text : instant_text zone second ≡ text_on day second

-- a cached day is correct: every instant of its range is on this day and is printed with the day's texts, which are
-- short
pub record IsFormattedDay (zone : Zone) (day : FormattedDay) : Type 0 where
  pub each : (second : ℤ) → day.from ≤ℤ second → second <ℤ day.to → IsOnDay zone day second
  pub short : HasShortTexts day

-- the weekday and the date, each followed by a space
unfoldable pub day_text : Civil → List ℕ
day_text c = joined (weekday_name c.weekday ∷ codes " " ∷ date_text c ∷ codes " " ∷ [])
