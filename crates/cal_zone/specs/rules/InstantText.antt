-- How an instant is printed: `Sat 2020-02-29 00:00:00 UTC`, as systemd.time(7) shows timestamps.
use Rattle.std.specs.Prelude.{ℕ, ◌-◌, if◌then◌else◌, Bool, ℤ, unsigned_abs, List, [], ◌∷◌, ◌++◌, codes, decimal, slice_index_or}
use Rattle.jiff_core.specs.declared.civil.weekday.Weekday.TheVariants.{Sunday}
use Rattle.cal_bytes.specs.rules.Bytes.{joined}
use Rattle.cal_civil.specs.rules.OffsetText.{offset_text, zeros}
use Rattle.cal_zone.specs.rules.Civil.{civil_of}
use Rattle.cal_civil.specs.rules.Weekday.{week, short_name_of}
use Rattle.cal_zone.specs.rules.Zone.{is_utc, zone_of}
use Rattle.cal_zone.specs.declared.civil_fields.Civil.{Civil}
use Rattle.cal_zone.specs.declared.zone.Zone.{Zone}

-- the short English name of the weekday with the number `n`, where 1 is Monday
unfoldable pub weekday_name : ℕ → List ℕ
weekday_name n = short_name_of (slice_index_or week (n - 1) Sunday)

-- a date such as `2020-02-29`: four digits for the year, two for the month and two for the day
unfoldable pub date_text : Civil → List ℕ
date_text c =
    let year = unsigned_abs c.year in
    joined (zeros 4 year ∷ decimal year ∷ codes "-" ∷ zeros 2 c.month ∷ decimal c.month ∷ codes "-" ∷ zeros 2 c.day ∷ decimal c.day ∷ [])

-- a time of day such as `00:00:00`: two digits each for the hour, the minute and the second
unfoldable pub time_text : ℕ → ℕ → ℕ → List ℕ
time_text hour minute second =
    joined (zeros 2 hour ∷ decimal hour ∷ codes ":" ∷ zeros 2 minute ∷ decimal minute ∷ codes ":" ∷ zeros 2 second ∷ decimal second ∷ [])

-- the last word of a printed instant: `UTC` in UTC itself, and the UTC offset in every other zone
unfoldable pub zone_word : Bool → ℤ → List ℕ
zone_word is_utc offset = if is_utc then codes "UTC" else offset_text offset

-- the weekday, the date and the time, each followed by a space
unfoldable pub shown_text : Civil → List ℕ
shown_text c =
    joined (weekday_name c.weekday ∷ codes " " ∷ date_text c ∷ codes " " ∷ time_text c.hour c.minute c.second ∷ codes " " ∷ [])

-- the printed text of the instant `second`: what clocks in the zone show, and then the word for the zone
unfoldable pub instant_text : Zone → ℤ → List ℕ
instant_text zone second =
    let shown = civil_of (zone_of zone) second in
    shown_text shown ++ zone_word (is_utc zone) shown.offset
