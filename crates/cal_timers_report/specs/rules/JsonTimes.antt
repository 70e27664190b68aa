-- Time spans and local times as they are printed in JSON documents.
use Rattle.std.specs.Prelude.{ℕ, ◌*◌, ℤ, pos, ◌-ℤ◌, int_lt, unsigned_abs, if◌then◌else◌, List, [], ◌∷◌, codes}
use Rattle.std.specs.Int.{int_max, int_min}
use Rattle.cal_bytes.specs.rules.Bytes.{joined}
use Rattle.cal_span.specs.rules.SpanText.{span_text}
use Rattle.cal_zone.specs.rules.Civil.{civil_of}
use Rattle.cal_zone.specs.rules.Instant.{last_instant}
use Rattle.cal_zone.specs.rules.InstantText.{weekday_name, date_text, time_text}
use Rattle.cal_zone.specs.rules.Zone.{utc, zone_of}
use Rattle.cal_zone.specs.declared.civil_fields.Civil.{Civil}

-- the printed time span between two instants
abbrev pub span_between : ℤ → ℤ → List ℕ
span_between now secs = span_text (unsigned_abs (secs -ℤ now) * 1_000_000)

-- how long it is from `now` until an instant, or `0` if the instant isn't later than `now`
abbrev pub left_span : ℤ → ℤ → List ℕ
left_span now secs = if int_lt now secs then span_between now secs else codes "0"

-- how long ago an instant was, or `0` if it isn't earlier than `now`
abbrev pub ago_span : ℤ → ℤ → List ℕ
ago_span now secs = left_span secs now

-- the weekday, the date and the time of day, as in `Sun 2027-03-28 02:30:00`
abbrev pub civil_text : Civil → List ℕ
civil_text shown =
    let time = time_text shown.hour shown.minute shown.second in
    joined (weekday_name shown.weekday ∷ codes " " ∷ date_text shown ∷ codes " " ∷ time ∷ [])

-- what a clock in UTC shows at an instant
abbrev pub utc_clock_text : ℤ → List ℕ
utc_clock_text secs = civil_text (civil_of (zone_of utc) secs)

-- the instant that is nearest to a number of seconds
abbrev pub nearest_instant : ℤ → ℤ
nearest_instant secs = int_max (pos 0) (int_min secs last_instant)

-- A local time is given in seconds since 1970-01-01 00:00:00 on the clock that shows it. So it is what a clock in UTC
-- shows at the instant with the same number of seconds.
abbrev pub local_time_text : ℤ → List ℕ
local_time_text local = utc_clock_text (nearest_instant local)
