-- The elapses of calendar expressions, as lists; of several expressions, one list for each (systemd.timer(5),
-- OnCalendar=).
use Rattle.std.specs.Prelude.{List, ℤ, int_lt, map, filter, [], ◌∷◌}
use Rattle.std.specs.List.{filter_map, range_with_len}
use Rattle.cal_civil.specs.rules.LocalSecond.{seconds_in_all}
use Rattle.cal_rising.specs.rules.RisingList.{union, without}
use Rattle.cal_elapse.specs.rules.Elapses.{Timed}

-- the elapse set of an expression: the places of all local seconds that match
unfoldable pub places : Timed → List ℤ
places e = filter_map e.place (filter e.matches (range_with_len 0 seconds_in_all))

-- the elapses after `b`: the strictly increasing list of all instants after `b` in at least one of the elapse sets
unfoldable pub elapses_after : List Timed → ℤ → List ℤ
elapses_after es b = union (map (λ e. filter (int_lt b) (places e)) es)

-- the elapses after `b` of the expressions `es`, without those of the exceptions
unfoldable pub elapses_except : List Timed → List Timed → ℤ → List ℤ
elapses_except es exceptions b = without (elapses_after es b) (elapses_after exceptions b)

-- the lists of elapses after `b`, one list for each expression
abbrev pub each_after : List Timed → ℤ → List (List ℤ)
each_after es b = map (λ e. elapses_after (e ∷ []) b) es
