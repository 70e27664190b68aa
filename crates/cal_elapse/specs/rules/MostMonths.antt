-- The largest number of months that a single search examines, among a first search and one search after each match in a
-- range of local seconds.
use Rattle.std.specs.Prelude.{◌≡◌, ◌⊎◌, ◌+◌, ◌<◌, ◌≤◌, ℕ, true, Option}
use Rattle.cal_civil.specs.rules.LocalSecond.{seconds_in_all}
use Rattle.cal_elapse.specs.rules.ExaminedMonths.{examined_months}
use Rattle.cal_elapse.specs.rules.Search.{IsFirstPassing}
use Rattle.cal_spec.specs.rules.Match.{Sets, matches}

-- a search from `from` on examines `months` months
pub record IsExamined (sets : Sets) (from months : ℕ) : Type 0 where
  pub answer : Option ℕ
  pub first : IsFirstPassing (matches sets) from seconds_in_all answer
  pub examined : months ≡ examined_months sets from answer

-- there is a match in the range `from..to`, and a search that starts just after this match examines `months` months
pub record IsExaminedAfter (sets : Sets) (from to months : ℕ) : Type 0 where
  pub local : ℕ
  pub low : from ≤ local
  pub high : local < to
  pub is_match : matches sets local ≡ true
  pub examined : IsExamined sets (local + 1) months

-- One search starts just after each match from `from` up to but not including `to`. `most` is the largest of `before`
-- and the numbers of months that these searches examine.
pub record IsMostAfter (sets : Sets) (from to before most : ℕ) : Type 0 where
  pub not_below : before ≤ most
  pub all : (months : ℕ) → IsExaminedAfter sets from to months → months ≤ most
  pub one : (most ≡ before) ⊎ IsExaminedAfter sets from to most

-- `most` is the largest number of months that a single search examines, among the search from `start` on and the
-- searches that start just after a match in the range `start..to`
pub record IsMost (sets : Sets) (start to most : ℕ) : Type 0 where
  pub first : ℕ
  pub begun : IsExamined sets start first
  pub later : IsMostAfter sets start to first most
