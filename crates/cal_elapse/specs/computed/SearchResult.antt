-- What a search returns: the first match, or several consecutive matches at once.
use Rattle.std.specs.Prelude.{◌+◌, ◌-◌, ◌≤ℤ◌, ℕ, Bool, unsigned_abs}
use Rattle.cal_elapse.specs.computed.RemainingMatches.{AreNext}
use Rattle.cal_elapse.specs.computed.SearchStart.{begin_of}
use Rattle.cal_elapse.specs.declared.search.searcher.Matches.{Matches}
use Rattle.cal_elapse.specs.declared.search.searcher.Matches.TheVariants.{First, Batch}
use Rattle.cal_elapse.specs.declared.search.searcher.SearchStart.{SearchStart}
use Rattle.cal_elapse.specs.declared.search.searcher.SearchStart.TheVariants.{At, After}
use Rattle.cal_elapse.specs.rules.ExaminedMonths.{IsSearch}
use Rattle.cal_elapse.specs.rules.Search.{count_from}
use Rattle.cal_spec.specs.rules.Match.{Sets, matches}

-- The result of a search is the first match from its start on, or, for a start `After local until`, all later matches
-- in the minute of `local`, or if there are none, all in the later minutes of its hour. None of the matches of a batch
-- is after `until`.
abbrev pub AreFound : Sets → SearchStart → Matches → Type 0
AreFound sets start (First found) = IsSearch sets (begin_of start) found
AreFound sets (At local) (Batch next) = ⊥
AreFound sets (After local until) (Batch next) =
    (next.last ≤ℤ until)
    × AreNext (matches sets) (unsigned_abs local) (unsigned_abs next.start) next.minutes next.seconds (unsigned_abs next.last)

-- How many searches a result counts as: for a batch, the number of matching local seconds from the start of the search
-- up to and including the last match returned; otherwise 1.
abbrev pub searches_of : (ℕ → Bool) → SearchStart → Matches → ℕ
searches_of passes start (First found) = 1
searches_of passes start (Batch next) = count_from passes (begin_of start) (unsigned_abs next.last + 1 - begin_of start)

-- the largest number of months that one of these searches examines
abbrev pub months_of : Matches → ℕ
months_of (First found) = found.months
months_of (Batch next) = 1
