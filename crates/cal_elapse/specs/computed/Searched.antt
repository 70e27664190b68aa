-- How many searches have been made for an expression, and the largest number of months that one of them examined.
use Rattle.std.specs.Prelude.{◌≡◌, ◌+◌, ◌-◌, ℕ, Option, None, Some, ℤ, unsigned_abs}
use Rattle.cal_civil.specs.rules.LocalSecond.{max_offset, seconds_in_all}
use Rattle.cal_elapse.specs.rules.Elapses.{Timed}
use Rattle.cal_elapse.specs.rules.MostMonths.{IsMost}
use Rattle.cal_elapse.specs.computed.Window.{count_from, start_of}
use Rattle.cal_spec.specs.rules.Match.{Sets}

-- how many matching local seconds there are from the start of the first search up to but not including `bound`
abbrev pub matches_up_to : Timed → ℤ → ℕ → ℕ
matches_up_to e base bound = count_from e.matches (start_of base) (bound - start_of base)

-- When `next` returns, `searches` is how many searches have been made: 1 more than the number of matching local seconds
-- in a range. This range begins where the first search starts. If `next` returns `Some elapse`, the range ends with the
-- local second `elapse` + `max_offset`. If `next` returns `None`, the range ends with the last local second.
abbrev pub IsSearched : Timed → ℤ → Option ℤ → ℕ → Type 0
IsSearched e base (Some elapse) searches = searches ≡ matches_up_to e base (unsigned_abs elapse + (max_offset + 1)) + 1
IsSearched e base None searches = searches ≡ matches_up_to e base seconds_in_all + 1

-- When `next` returns, `most` is the largest number of months that a single search has examined. Besides the first
-- search, there has been one search after each match in a range of local seconds. This range begins where the first
-- search starts. If `next` returns `Some elapse`, the range ends with the local second `elapse` + `max_offset`. If
-- `next` returns `None`, the range ends with the last local second.
abbrev pub IsMostSearched : Sets → ℤ → Option ℤ → ℕ → Type 0
IsMostSearched sets base (Some elapse) most = IsMost sets (start_of base) (unsigned_abs elapse + (max_offset + 1)) most
IsMostSearched sets base None most = IsMost sets (start_of base) seconds_in_all most
