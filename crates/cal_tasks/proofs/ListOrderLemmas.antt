-- Lemmas on the order of the rows of `list`: soonest first.
use Rattle.std.proofs.Common.{◌≡◌, ℕ, ℤ, ◌≤ℤ◌, false, int_lt, List, [], ◌∷◌, ◌++◌, Option, None, Some, arith, map, refl, slice_get, subst, sym}
use Rattle.std.proofs.lemmas.Int.{ints}
use Rattle.std.specs.List.{AllByRecursion, filter}
use Rattle.std.specs.Prelude.{codes, string_bytes}
use Rattle.std.specs.List.Sorted.{IsSortedBy}
use Rattle.cal_load.specs.declared.loaded.Loaded.{Loaded}
use Rattle.cal_load.specs.declared.loaded.LoadedTimer.{LoadedTimer}
use Rattle.cal_load.specs.declared.target_fault.TargetFault.{TargetFault}
use Rattle.cal_load.specs.rules.TextFaults.{fails_to_load}
use Rattle.cal_timers_report.specs.rules.ReportView.{UnitView}
use Rattle.cal_tasks.specs.rules.Unguarded.{UnguardedView}
use Rattle.cal_tasks.proofs.BetweenLemmas.{IsUpTo, not_after, timers_in_order}
use Rattle.cal_tasks.proofs.InOrderLemmas.{AreBefore, AreInOrder, all-append, in_order-append, in_order-flat_map, sorted-in_order}
use Rattle.cal_tasks.specs.declared.present.Present.{Present}
use Rattle.cal_tasks.specs.declared.timer_elapse.TimerElapse.{TimerElapse}
use Rattle.cal_tasks.specs.rules.ListLaw.{is_sooner}
use Rattle.cal_tasks.specs.rules.ListReport.{IsListOf, elapsing_row, elapsing_rows, ended_row, ended_rows, failed_rows, masked_rows, noted_row, row_at_elapse, row_if, row_of_ended}
use Rattle.cal_tasks.specs.rules.LoadedElapses.{elapses_in}
use Rattle.cal_tasks.specs.rules.SeveralTimers.{elapse_seen, ended}

-- the second next elapse isn't before the first
abbrev IsNoLater : Option ℤ → Option ℤ → Type 0
IsNoLater one None = Unit {0}
IsNoLater None (Some other) = ⊥
IsNoLater (Some one) (Some other) = one ≤ℤ other

not_sooner : (one other : Option ℤ) → IsNoLater one other → is_sooner other one ≡ false
not_sooner None None up = refl
not_sooner (Some one) None up = refl
not_sooner None (Some other) up = absurd up
not_sooner (Some one) (Some other) up = not_less one other up
  where
    not_less : (x y : ℤ) → x ≤ℤ y → int_lt y x ≡ false
    not_less x y le = grind (arith, ints)

abbrev IsInOrder : UnitView → UnitView → Type 0
IsInOrder x y = IsNoLater x.next y.next

abbrev HasNone : UnitView → Type 0
HasNone row = row.next ≡ None

no_later : (one other : Option ℤ) → other ≡ None → IsNoLater one other
no_later one other none = subst (λ (o : Option ℤ). IsNoLater one o) (sym none) tt

all_no_later : (x : UnitView) (ys : List UnitView) → AllByRecursion HasNone ys → AllByRecursion (IsInOrder x) ys
all_no_later x [] none = tt
all_no_later x (y ∷ ys) none = (no_later x.next y.next none.0, all_no_later x ys none.1)

before_none : (xs ys : List UnitView) → AllByRecursion HasNone ys → AreBefore IsInOrder xs ys
before_none [] ys none = tt
before_none (x ∷ xs) ys none = (all_no_later x ys none, before_none xs ys none)

none_in_order : (ys : List UnitView) → AllByRecursion HasNone ys → AreInOrder IsInOrder ys
none_in_order [] none = tt
none_in_order (y ∷ ys) none = (all_no_later y ys none.1, none_in_order ys none.1)

-- rows without a next elapse can follow any rows
then_none : (xs ys : List UnitView) → AllByRecursion HasNone ys → AreInOrder IsInOrder xs → AreInOrder IsInOrder (xs ++ ys)
then_none xs ys none h = in_order-append IsInOrder xs ys h (none_in_order ys none) (before_none xs ys none)

-- ## The rows without a next elapse

module _ (loaded : Loaded) (unguarded : List UnguardedView) where
  ended_if : (timer : Option LoadedTimer) → AllByRecursion HasNone (row_if (ended_row loaded unguarded) timer)
  ended_if None = tt
  ended_if (Some timer) = (refl, tt)

  ended_none : (indices : List ℕ) → AllByRecursion HasNone (ended_rows loaded unguarded indices)
  ended_none [] = tt
  ended_none (index ∷ indices) =
      all-append HasNone (row_of_ended loaded unguarded index) (ended_rows loaded unguarded indices)
      (ended_if (slice_get loaded.timers.items index)) (ended_none indices)

  -- ## The rows with a next elapse

  one_in_order : (secs : ℤ) (timer : Option LoadedTimer) → AreInOrder IsInOrder (row_if (elapsing_row loaded unguarded secs) timer)
  one_in_order secs None = tt
  one_in_order secs (Some timer) = (tt, tt)

  two_in_order : (here there : ℤ) (one other : Option LoadedTimer) → here ≤ℤ there
      → AreBefore IsInOrder (row_if (elapsing_row loaded unguarded here) one) (row_if (elapsing_row loaded unguarded there) other)
  two_in_order here there None other up = tt
  two_in_order here there (Some one) None up = (tt, tt)
  two_in_order here there (Some one) (Some other) up = ((up, tt), tt)

  elapsing_in_order : (soonest : List TimerElapse) → AreInOrder (λ x y. IsUpTo (elapse_seen x) (elapse_seen y)) soonest
      → AreInOrder IsInOrder (elapsing_rows loaded unguarded soonest)
  elapsing_in_order soonest h =
      in_order-flat_map IsInOrder (λ x y. IsUpTo (elapse_seen x) (elapse_seen y)) (row_at_elapse loaded unguarded)
      (λ e. one_in_order e.instant.secs (slice_get loaded.timers.items e.timer))
      (λ x y up. two_in_order x.instant.secs y.instant.secs (slice_get loaded.timers.items x.timer) (slice_get loaded.timers.items y.timer) (not_after (elapse_seen x) (elapse_seen y) up))
      soonest h

noted_none : {X : Type 0} (note : List ℕ) (unit : X → List ℕ) (xs : List X) → AllByRecursion HasNone (map (λ x. noted_row note (unit x)) xs)
noted_none note unit [] = tt
noted_none note unit (x ∷ xs) = (refl, noted_none note unit xs)

pub soonest_first : (at : Present) (loaded : Loaded) (masked : List (List ℕ)) (unguarded : List UnguardedView) (rows : List UnitView) → IsListOf at loaded masked unguarded rows
    → IsSortedBy (λ x y. is_sooner x.next y.next) rows
soonest_first at loaded masked unguarded rows is =
    subst (λ (l : List UnitView). IsSortedBy (λ x y. is_sooner x.next y.next) l) (sym is.joined)
    (sorted-in_order IsInOrder (λ x y. is_sooner x.next y.next) (λ x y up. not_sooner x.next y.next up) _
    (then_none _ (failed_rows loaded.faults.items) (noted_none (codes "fails to load") (λ (fault : TargetFault). string_bytes fault.target) (filter (λ fault. fails_to_load fault.reason) loaded.faults.items))
    (then_none _ (masked_rows masked) (noted_none (codes "masked") (λ unit. unit) masked)
    (then_none (elapsing_rows loaded unguarded is.soonest) _ (ended_none loaded unguarded (ended (map (elapses_in at at.now.secs) loaded.timers.items)))
    (elapsing_in_order loaded unguarded is.soonest (timers_in_order is.soonest is.sorted))))))
