-- The two steps of a search for a local second: from which day on it looks for a matching day, and which time of day it
-- returns for the day found.
use Rattle.std.specs.Prelude.{ℕ, ◌+◌, ◌==◌, cond, Option, None, Some}

-- The earliest day on which a search that starts on `day` can find a match. The second argument is the first matching
-- time left on `day`. If there is none, the result is the day after `day`.
abbrev pub day_to_start : ℕ → Option ℕ → ℕ
day_to_start day None = day + 1
day_to_start day (Some second) = day

-- The time of day of a search's result. The search started on `day` and found a match on the day `found`. The third
-- argument is the first matching time that was left on `day`, and `first` is the first matching time of a whole day.
-- The result is the third argument if it is a time and both days are the same, and otherwise `first`.
abbrev pub second_on : ℕ → ℕ → Option ℕ → ℕ → ℕ
second_on found day None first = first
second_on found day (Some second) first = cond (found == day) second first
