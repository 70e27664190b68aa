-- The starting point of a search for matches.
use Rattle.std.specs.Prelude.{◌≡◌, ◌+◌, ℕ, Bool, true, pos, unsigned_abs}
use Rattle.jiff.specs.Words.{IsBetween}
use Rattle.cal_civil.specs.rules.LocalSecond.{IsLocalSecond, seconds_in_all}
use Rattle.cal_elapse.specs.declared.search.searcher.SearchStart.{SearchStart}
use Rattle.cal_elapse.specs.declared.search.searcher.SearchStart.TheVariants.{At, After}

-- the first local second that the search tests
abbrev pub begin_of : SearchStart → ℕ
begin_of (At local) = unsigned_abs local
begin_of (After local until) = unsigned_abs local + 1

-- a search can start at any local second, at the end of all local seconds (`seconds_in_all`), or after a match
abbrev pub CanStart : (ℕ → Bool) → SearchStart → Type 0
CanStart passes (At local) = IsBetween (pos 0) (pos seconds_in_all) local
CanStart passes (After local until) = IsLocalSecond local × (passes (unsigned_abs local) ≡ true)
