-- The matches that follow a match in its minute or in its hour, as bits.
use Rattle.std.specs.Prelude.{pos, ◌≡◌, ◌+◌, ◌-◌, ◌*◌, ◌/◌, ◌%◌, ◌<◌, ◌≤◌, ◌&&◌, count_ones, nat_lt, ℕ, Bool, true}
use Rattle.cal_elapse.specs.computed.Bits.{is_bit}
use Rattle.cal_elapse.specs.computed.Ring.{IsInMinutes}
use Rattle.cal_elapse.specs.rules.Months.{day_in, minute_in, minutes_per_day, minutes_in_all}
use Rattle.cal_elapse.specs.rules.Search.{count_from}
use Rattle.cal_spec.specs.rules.Match.{Sets}

-- whether a minute, counted from the start of 1970, is before 2200, and its date, its hour and its minute within the
-- hour match
unfoldable pub minute_matches : Sets → ℕ → Bool
minute_matches sets minute = nat_lt minute minutes_in_all && (day_in sets (minute / minutes_per_day) && minute_in sets (minute % minutes_per_day))

-- `found` is a local second, whose unit of 60 is its minute, or a minute, whose unit of 60 is its hour. Bit i of `left`
-- stands for the number `found` + 1 + i. The bit is set if and only if this number passes the test and is in the same
-- unit of 60 as `found`.
pub record AreRemaining (passes : ℕ → Bool) (found left : ℕ) : Type 0 where
  pub unit : (i : ℕ) → is_bit left i ≡ true → (found + 1 + i) / 60 ≡ found / 60
  pub passing : (t : ℕ) → found < t → t / 60 ≡ found / 60 → passes t ≡ is_bit left (t - (found + 1))

-- The local seconds that are m minutes and s seconds after `start`, where m is the index of a set bit of `minutes` and
-- s of `seconds`, are exactly those after `local` up to `last` that pass. There are as many of them as there are pairs
-- of m and s, so no two pairs stand for the same local second. `start` is after `local`. The local second `last`
-- passes, and is in the hour of `local`.
pub record AreNext (passes : ℕ → Bool) (local start minutes seconds last : ℕ) : Type 0 where
  pub later : local < start
  pub some : start ≤ last
  pub hour : last / 3_600 ≡ local / 3_600
  pub is_match : passes last ≡ true
  pub found : (t : ℕ) → IsInMinutes (pos start) minutes seconds (pos t) → (t ≤ last) × (passes t ≡ true)
  pub all : (t : ℕ) → local < t → t ≤ last → passes t ≡ true → IsInMinutes (pos start) minutes seconds (pos t)
  pub counted : count_from passes (local + 1) (last - local) ≡ count_ones minutes * count_ones seconds
