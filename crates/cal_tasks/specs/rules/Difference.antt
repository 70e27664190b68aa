-- The first instants at which only one of two timers elapses: systemd.timer(5), OnCalendar=. A timer is given as the
-- list of the instants at which it elapses.
use Rattle.std.specs.Prelude.{◌≡◌, List, ℤ, Option, option_map, slice_get}
use Rattle.cal_rising.specs.rules.RisingList.{without}
use Rattle.cal_tasks.specs.declared.difference.Difference.{Difference}

-- the first number of `xs` that isn't in `ys`
abbrev pub first_only_in : List ℤ → List ℤ → Option ℤ
first_only_in xs ys = slice_get (without xs ys) 0

-- whether the difference consists of the first instant that only `xs` has, and the first instant that only `ys` has
pub record IsDifference (xs ys : List ℤ) (difference : Difference) : Type 0 where
  pub one : option_map (λ instant. instant.secs) difference.only_one ≡ first_only_in xs ys
  pub other : option_map (λ instant. instant.secs) difference.only_other ≡ first_only_in ys xs
