-- The elapses that a source of elapses has yet to return.
use Rattle.std.specs.Prelude.{List, [], ◌∷◌, ℤ, int_lt, filter, map}
use Rattle.std.specs.Ordering.{int_cmp}
use Rattle.std.specs.List.Sorted.{IsStrictlySortedBy}
use Rattle.cal_elapse.specs.rules.ElapsesAfter.{elapses_after, places}
use Rattle.cal_rising.specs.computed.Rises.{rises-union}
use Rattle.cal_elapse.specs.computed.Window.{timed_of}
use Rattle.cal_elapse.specs.declared.window.Window.{Window}

-- the elapses after the instant that was returned last, or after the base if none was returned
unfoldable pub remaining_elapses : Window → List ℤ
remaining_elapses w = elapses_after (timed_of w ∷ []) w.last

pub rises-remaining_elapses : (w : Window) → IsStrictlySortedBy int_cmp (remaining_elapses w)
unfolding remaining_elapses elapses_after
rises-remaining_elapses w = rises-union (map (λ e. filter (int_lt w.last) (places e)) (timed_of w ∷ []))
