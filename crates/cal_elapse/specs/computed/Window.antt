-- The state of a source of elapses: the local second before which all matches have been converted to instants, and the
-- pending instants, which have been found but not returned yet.
use Rattle.std.specs.Prelude.{◌≡◌, ◌↔◌, ◌+◌, ◌-◌, ◌<◌, ◌≤◌, cond, ℕ, true, List, Option, None, Some, ℤ, pos, negsuc, ◌+ℤ◌, ◌-ℤ◌, ◌<ℤ◌, ◌≤ℤ◌, int_lt, unsigned_abs, IfSome, MatchOption, slice_get, unwrap_or}
use Rattle.std.specs.Option.{option_map}
use Rattle.std.specs.Ordering.{int_cmp}
use Rattle.std.specs.List.Sorted.{IsStrictlySortedBy}
use Rattle.std.specs.BTreeSet.{insert_key}
use Rattle.cal_civil.specs.rules.LocalSecond.{IsLocalSecond, seconds_in_all, max_offset}
use Rattle.cal_zone.specs.computed.LocalOffsetRange.{AreAtOffset}
use Rattle.cal_zone.specs.rules.Place.{place_of}
use Rattle.cal_zone.specs.rules.Zone.{zone_of}
use Rattle.cal_zone.specs.declared.zone.Zone.{Zone}
unfoldable pub use Rattle.cal_elapse.specs.rules.Search.{count_from}
use Rattle.cal_elapse.specs.rules.Elapses.{Timed}
use Rattle.cal_elapse.specs.computed.Masks.{sets_in}
use Rattle.cal_elapse.specs.rules.MostMonths.{IsMost}
use Rattle.cal_rising.specs.rules.Elements.{Has}
use Rattle.cal_elapse.specs.declared.masks.Masks.{Masks}
use Rattle.cal_elapse.specs.declared.window.Window.{Window}
use Rattle.cal_spec.specs.rules.Match.{matches}

-- `i` is the instant of a matching local second below `bound`
pub record IsPlacedBelow (e : Timed) (bound : ℕ) (i : ℤ) : Type 0 where
  pub local : ℕ
  pub below : local < bound
  pub is_match : e.matches local ≡ true
  pub placed : e.place local ≡ Some i

-- `xs` is strictly increasing and contains exactly the instants after `last` to which matching local seconds below
-- `bound` resolve. No matching local second from `from` up to but not including `bound` is later than an instant in
-- `xs` by more than `max_offset`, the largest distance between a local second and its instant.
pub record Windowed (e : Timed) (from bound : ℕ) (last : ℤ) (xs : List ℤ) : Type 0 where
  pub rises : IsStrictlySortedBy int_cmp xs
  pub members : (i : ℤ) → Has xs i ↔ ((last <ℤ i) × IsPlacedBelow e bound i)
  pub reach : (i : ℤ) → Has xs i → (t : ℕ) → from ≤ t → t < bound → e.matches t ≡ true → pos t ≤ℤ (i +ℤ pos max_offset)

-- the local second at which the first search starts: no earlier local second resolves to an instant after the base
abbrev pub start_of : ℤ → ℕ
start_of (pos base) = base - max_offset
start_of (negsuc n) = 0

-- the bound below which all matches have been converted: `ahead`, the match that was found last, or the end of all
-- local seconds if `ahead` is `None`
abbrev pub bound_of : Option ℤ → ℕ
bound_of ahead = unwrap_or (option_map unsigned_abs ahead) seconds_in_all

-- `ahead` is `None` or a local second that matches
abbrev pub IsMatchAhead : Timed → Option ℤ → Type 0
IsMatchAhead e ahead = IfSome ahead (λ local. IsLocalSecond local × (e.matches (unsigned_abs local) ≡ true))

-- The arguments are the next match, if any is left, and the smallest pending instant, if anything is pending. The
-- result is the next match if it has to be converted before the smallest pending instant can be returned, and otherwise
-- `None`. If nothing is pending, the next match always has to be converted.
abbrev pub to_place : Option ℤ → Option ℤ → Option ℤ
to_place None least = None
to_place (Some local) None = Some local
to_place (Some local) (Some least) = cond (int_lt least (local -ℤ pos max_offset)) None (Some local)

-- the pending instants `xs`, with the first argument added if it is an instant after `last`, the instant returned last
abbrev pub with_place : Option ℤ → ℤ → List ℤ → List ℤ
with_place None last xs = xs
with_place (Some i) last xs = cond (int_lt last i) (insert_key int_cmp xs i) xs

-- What the masks of an expression mean in a zone: which local seconds match, and to which instants local seconds
-- resolve. A mask has one bit for each value that a field of the expression matches.
unfoldable pub timed_by : Masks → Zone → Timed
timed_by masks zone = record { matches = matches (sets_in masks); place = λ local. place_of (zone_of zone) (pos local) }

abbrev pub timed_of : Window → Timed
timed_of w = timed_by w.searcher.masks w.place_cache

-- All matches before `w.ahead` have been converted; if `w.ahead` is `None`, all matches have. Besides the first search,
-- one search has been made after each converted match that is at or after the start of the first search.
pub record IsReady (w : Window) : Type 0 where
  pub windowed : Windowed (timed_of w) (start_of w.base) (bound_of w.ahead) w.last w.pending
  pub found : IsMatchAhead (timed_of w) w.ahead
  pub low : pos 0 ≤ℤ w.base
  pub above : w.base ≤ℤ w.last
  pub begun : start_of w.base ≤ bound_of w.ahead
  pub counted : w.searcher.searches ≡ count_from (timed_of w).matches (start_of w.base) (bound_of w.ahead - start_of w.base) + 1
  pub examined : IsMost (sets_in w.searcher.masks) (start_of w.base) (bound_of w.ahead) w.searcher.most_months

-- `local` is a match, all matches up to and including `local` have been converted, and the search after `local` hasn't
-- been made yet
pub record IsPlacedTo (w : Window) (local : ℤ) : Type 0 where
  pub windowed : Windowed (timed_of w) (start_of w.base) (unsigned_abs local + 1) w.last w.pending
  pub found : IsMatchAhead (timed_of w) (Some local)
  pub low : pos 0 ≤ℤ w.base
  pub above : w.base ≤ℤ w.last
  pub begun : start_of w.base ≤ unsigned_abs local
  pub counted : w.searcher.searches ≡ count_from (timed_of w).matches (start_of w.base) (unsigned_abs local + 1 - start_of w.base)
  pub examined : IsMost (sets_in w.searcher.masks) (start_of w.base) (unsigned_abs local) w.searcher.most_months

-- The matches after the match `local` up to `end` can be converted together, with the UTC offset `offset`. The zone has
-- this offset from `local` to `end`, and `end` is at most `max_offset` seconds after each pending instant. If nothing
-- is pending, `end` doesn't resolve to an instant after the one returned last. Otherwise the smallest pending instant
-- isn't after the instant of `local`.
pub record AreConvertible (w : Window) (local end offset : ℤ) : Type 0 where
  pub constant : AreAtOffset (zone_of w.place_cache) local end offset
  pub near : (i : ℤ) → Has w.pending i → end ≤ℤ (i +ℤ pos max_offset)
  pub begun : MatchOption (slice_get w.pending 0) ((end -ℤ offset) ≤ℤ w.last) (λ least. least ≤ℤ (local -ℤ offset))
