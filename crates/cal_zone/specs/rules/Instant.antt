-- Instants, which count seconds of Unix time, and moments, which count microseconds: their ranges, and instants as
-- moments.
use Rattle.std.specs.Prelude.{ℕ, ℤ, pos, ◌*ℤ◌, ◌≤ℤ◌}

abbrev pub micros_per_second : ℕ
micros_per_second = 1_000_000

-- the first moment of an instant
abbrev pub micros_of : ℤ → ℤ
micros_of secs = secs *ℤ pos micros_per_second

-- the last instant: the end of the year 2199 at the UTC offset farthest west
abbrev pub last_instant : ℤ
last_instant = pos 7_258_211_998

-- the last moment: the last microsecond of the last instant
abbrev pub last_moment : ℤ
last_moment = pos 7_258_211_998_999_999

-- a whole second of Unix time, from 0 to the last instant
abbrev pub IsInstant : ℤ → Type 0
IsInstant secs = (pos 0 ≤ℤ secs) × (secs ≤ℤ last_instant)

-- a whole microsecond of Unix time, from 0 to the last moment
abbrev pub IsMoment : ℤ → Type 0
IsMoment micros = (pos 0 ≤ℤ micros) × (micros ≤ℤ last_moment)
