-- The spellings of the units of time: systemd.time(7), Parsing Time Spans.
use Rattle.std.specs.Prelude.{ℕ, List, [], ◌∷◌, codes}
use Rattle.cal_span.specs.declared.time_unit.TimeUnit.{TimeUnit}
use Rattle.cal_span.specs.declared.time_unit.TimeUnit.TheVariants.{Year, Month, Week, Day, Hour, Minute, Second, Millisecond, Microsecond}

-- all spellings of a unit, in UTF-8; case matters (systemd.time(7), Parsing Time Spans)
unfoldable pub spellings_of : TimeUnit → List (List ℕ)
spellings_of Year = codes "years" ∷ codes "year" ∷ codes "y" ∷ []
spellings_of Month = codes "months" ∷ codes "month" ∷ codes "M" ∷ []
spellings_of Week = codes "weeks" ∷ codes "week" ∷ codes "w" ∷ []
spellings_of Day = codes "days" ∷ codes "day" ∷ codes "d" ∷ []
spellings_of Hour = codes "hours" ∷ codes "hour" ∷ codes "hr" ∷ codes "h" ∷ []
spellings_of Minute = codes "minutes" ∷ codes "minute" ∷ codes "min" ∷ codes "m" ∷ []
spellings_of Second = codes "seconds" ∷ codes "second" ∷ codes "sec" ∷ codes "s" ∷ []
spellings_of Millisecond = codes "msec" ∷ codes "ms" ∷ []
-- the last two spellings of the microsecond begin with the micro sign, U+00B5, and the Greek letter mu, U+03BC,
-- respectively
spellings_of Microsecond =
    codes "usec" ∷ codes "us" ∷ (194 ∷ 181 ∷ codes "s") ∷ (206 ∷ 188 ∷ codes "s") ∷ []
