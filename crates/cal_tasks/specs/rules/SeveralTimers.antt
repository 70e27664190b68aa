-- The elapses of several timers, each with the index of its timer: systemd.timer(5), OnCalendar=. A timer is given as
-- the list of the instants at which it elapses.
use Rattle.std.specs.Prelude.{ℕ, Bool, ◌&&◌, List, [], ◌∷◌, ℤ, int_le, int_lt, map, filter}
use Rattle.std.specs.List.{enumerate_from, flat_map}
use Rattle.std.specs.Ordering.{int_cmp, nat_cmp, ordering_then}
use Rattle.std.specs.declared.cmp.Ordering.{Ordering}
use Rattle.cal_tasks.specs.declared.timer_elapse.TimerElapse.{TimerElapse}

-- an elapse: the instant, in seconds of Unix time, and the index of the timer
pub record Elapse : Type 0 where
  pub secs : ℤ
  pub timer : ℕ

abbrev pub elapse_seen : TimerElapse → Elapse
elapse_seen elapse = record { secs = elapse.instant.secs; timer = elapse.timer }

-- the order of elapses: by instant, and at the same instant by the index of the timer
abbrev pub by_instant : TimerElapse → TimerElapse → Ordering
by_instant x y = ordering_then (int_cmp x.instant.secs y.instant.secs) (nat_cmp x.timer y.timer)

-- the results of `f` for the index and the elapses of each timer, joined in the order of the timers; `first` is the
-- index of the first timer
abbrev pub of_each : {B : Type 0} → (ℕ → List ℤ → List B) → ℕ → List (List ℤ) → List B
of_each f first timers = flat_map (λ t. f t.0 t.1) (enumerate_from first timers)

-- whether the instant is at or after `from` and before `before`
abbrev pub in_range : ℤ → ℤ → ℤ → Bool
in_range from before secs = int_le from secs && int_lt secs before

-- the elapses of one timer in a range; the first two arguments bound the range, as in `in_range`, and the third is the
-- index of the timer
abbrev pub range_of_one : ℤ → ℤ → ℕ → List ℤ → List Elapse
range_of_one from before timer xs = map (λ secs. record { secs = secs; timer = timer }) (filter (in_range from before) xs)

-- the elapses of all timers in a range, in the order of the timers; the first two arguments bound the range
abbrev pub range_of_each : ℤ → ℤ → List (List ℤ) → List Elapse
range_of_each from before timers = of_each (range_of_one from before) 0 timers

-- the next elapse of one timer, if it has one
abbrev pub next_of_one : ℕ → List ℤ → List Elapse
next_of_one timer [] = []
next_of_one timer (x ∷ xs) = record { secs = x; timer = timer } ∷ []

-- the next elapse of each timer that has one, in the order of the timers
abbrev pub next_of_each : List (List ℤ) → List Elapse
next_of_each timers = of_each next_of_one 0 timers

-- the index of a timer, if it has no elapses
abbrev pub index_if_ended : ℕ → List ℤ → List ℕ
index_if_ended timer [] = timer ∷ []
index_if_ended timer (x ∷ xs) = []

-- the indices of the timers that have no elapses
abbrev pub ended : List (List ℤ) → List ℕ
ended timers = of_each index_if_ended 0 timers
