-- What the runs of a set of weekdays are: its maximal ranges of consecutive days. The definition doesn't say how to
-- compute them. Days are numbered from 0 for Monday.
use Rattle.std.specs.Prelude.{◌≡◌, ℕ, ◌+◌, ◌≤◌, Bool, false, ◌||◌, List, [], ◌∷◌, slice_index_or}
use Rattle.cal_spec.specs.rules.Members.{is_between}
use Rattle.cal_spec.specs.rules.WeekdayRuns.{Run}

-- whether one of the runs contains the day
abbrev pub is_in : ℕ → List Run → Bool
is_in day [] = false
is_in day (r ∷ rs) = is_between r.first r.last day || is_in day rs

-- each run has at least one day; the runs are in ascending order, begin at `low` or later, and are separated by at
-- least one day that is in none of them
abbrev pub AreApartFrom : ℕ → List Run → Type 0
AreApartFrom low [] = Unit {0}
AreApartFrom low (r ∷ rs) = (low ≤ r.first) × (r.first ≤ r.last) × AreApartFrom (r.last + 2) rs

-- `rs` are the runs of the weekdays for which `days` is `true`
pub record AreWeekdayRuns (days : List Bool) (rs : List Run) : Type 0 where
  pub chosen : (day : ℕ) → is_in day rs ≡ slice_index_or days day false
  pub apart : AreApartFrom 0 rs
