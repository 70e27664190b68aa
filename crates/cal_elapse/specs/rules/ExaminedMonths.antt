-- The result of a search, and the number of months that the search examines. A search goes from the month in which it
-- starts to the month of its result, or to the end of 2199 if there is no result. Of these months, it examines only
-- those whose year and month number match.
use Rattle.std.specs.Prelude.{◌≡◌, ◌≤◌, ℕ, suc, ◌-◌, ◌/◌, Option, None, Some, pos, unsigned_abs}
use Rattle.std.specs.Option.{option_map}
use Rattle.cal_civil.specs.rules.LocalSecond.{civil_date, seconds_per_day}
use Rattle.cal_spec.specs.rules.Match.{Sets, matches}
use Rattle.cal_elapse.specs.rules.Search.{count_from, IsFirstLocal}
use Rattle.cal_elapse.specs.rules.Months.{month_in, month_of, months_in_all}
use Rattle.cal_elapse.specs.declared.search.Found.{Found}

-- The number of months that a search for a day examines if it starts in month `n`. The last argument is the day that
-- the search finds, if it finds one. The search examines the months whose year and month number match, from `n` to the
-- month of this day, or to the end of 2199 if it finds no day.
abbrev pub examined_from : Sets → ℕ → Option ℕ → ℕ
examined_from sets n None = count_from (month_in sets) n (months_in_all - n)
examined_from sets n (Some day) = count_from (month_in sets) n (suc (month_of (civil_date day)) - n)

-- the number of months that a search for a local second examines if it starts at `from` and its result is `answer`
abbrev pub examined_months : Sets → ℕ → Option ℕ → ℕ
examined_months sets from answer = examined_from sets (month_of (civil_date (from / seconds_per_day))) (option_map (λ t. t / seconds_per_day) answer)

-- `found` is the result of one search: the first matching local second at or after `from`, and the number of months
-- examined, at most `months_in_all`
pub record IsSearch (sets : Sets) (from : ℕ) (found : Found) : Type 0 where
  pub first : IsFirstLocal (matches sets) (pos from) found.local
  pub counted : found.months ≡ examined_months sets from (option_map unsigned_abs found.local)
  pub few : found.months ≤ months_in_all
