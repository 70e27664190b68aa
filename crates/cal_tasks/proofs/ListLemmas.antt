-- Lemmas on the rows of `list`: there is one for each timer.
use Rattle.std.proofs.Common.{◌≡◌, ℕ, ℤ, ◌+◌, ◌-◌, ◌<◌, ◌≤◌, List, [], ◌∷◌, ◌++◌, refl, sym, ap, subst, ◌∙◌, arith, append_assoc, flat_map, get_or, length, map, slice_get, suc, IsPermutation}
use Rattle.std.specs.List.{AllByRecursion}
use Rattle.std.proofs.lemmas.List.{get_or-append_right, length-append, length-map}
use Rattle.std.proofs.lemmas.List.Sorted.{All-permutation, IsPermutation-append_left, IsPermutation-cons, IsPermutation-map, IsPermutation-middle, IsPermutation-refl, IsPermutation-sym, IsPermutation-trans, length_permutation}
use Rattle.std.proofs.lemmas.Option.{slice_get-get_or}
use Rattle.std.proofs.lemmas.Simd.{map-map}
use Rattle.std.proofs.lemmas.List.Elements.{All-from_recursion, recursion_from_All}
use Rattle.cal_load.specs.declared.loaded.Loaded.{Loaded}
use Rattle.cal_load.specs.declared.loaded.LoadedTimer.{LoadedTimer}
use Rattle.cal_timers_report.specs.rules.ReportView.{UnitView}
use Rattle.cal_tasks.specs.declared.timer_elapse.TimerElapse.{TimerElapse}
use Rattle.cal_tasks.specs.declared.present.Present.{Present}
use Rattle.cal_tasks.specs.rules.ListLaw.{row_by, timer_row}
use Rattle.cal_tasks.specs.rules.ListReport.{IsListOf, elapsing_row, elapsing_rows, ended_row, ended_rows, failed_rows, masked_rows, row_at_elapse, row_if, row_of_ended}
use Rattle.cal_tasks.specs.rules.LoadedElapses.{elapses_in}
use Rattle.cal_tasks.specs.rules.Unguarded.{UnguardedView}
use Rattle.cal_tasks.specs.rules.SeveralTimers.{Elapse, elapse_seen, ended, index_if_ended, next_of_each, next_of_one, of_each}

-- if `f` returns one element for each element of a list, `flat_map f` is a `map`
each_one : {X Y : Type 0} (f : X → List Y) (g : X → Y) (xs : List X) → AllByRecursion (λ x. f x ≡ g x ∷ []) xs → flat_map f xs ≡ map g xs
each_one f g [] all = refl
each_one f g (x ∷ xs) all = ap (λ (ys : List _). ys ++ flat_map f xs) all.0 ∙ ap (λ (ys : List _). g x ∷ ys) (each_one f g xs all.1)

-- the element after the list `pre` has the length of `pre` as its index
at_seam : {X : Type 0} (pre : List X) (x : X) (post : List X) (d : X) → get_or (pre ++ x ∷ post) (length pre) d ≡ x
at_seam pre x post d =
    let first : length pre - length pre ≡ 0 = omega arith in
    get_or-append_right pre (x ∷ post) (length pre) (length pre) d refl (omega arith) ∙ ap (λ (n : ℕ). get_or (x ∷ post) n d) first

module _ (loaded : Loaded) (unguarded : List UnguardedView) (instants : LoadedTimer → List ℤ) (d : LoadedTimer) where
  -- `elapse_row` is the row of the timer that has this elapse next; `end_row` is the row of the timer with this index
  -- if the timer doesn't elapse any more
  elapse_row : Elapse → UnitView
  elapse_row elapse = elapsing_row loaded unguarded elapse.secs (get_or loaded.timers.items elapse.timer d)

  end_row : ℕ → UnitView
  end_row index = ended_row loaded unguarded (get_or loaded.timers.items index d)

  -- If `rows` has a row for each timer after the one at `index`, then `rows` with the row of this timer has a row for
  -- each timer from `index` on. `xs` are the instants at which this timer elapses.
  one_more : (timer : LoadedTimer) (index : ℕ) (xs : List ℤ) (rows : List UnitView) (elapses : List Elapse) (ends : List ℕ)
      → get_or loaded.timers.items index d ≡ timer → IsPermutation rows (map elapse_row elapses ++ map end_row ends)
      → IsPermutation (row_by loaded unguarded timer xs ∷ rows) (map elapse_row (next_of_one index xs ++ elapses) ++ map end_row (index_if_ended index xs ++ ends))
  unfolding elapse_row end_row
  one_more timer index [] rows elapses ends at rest =
      subst (λ (t : LoadedTimer). IsPermutation (ended_row loaded unguarded timer ∷ rows) (map elapse_row elapses ++ ended_row loaded unguarded t ∷ map end_row ends)) (sym at)
      (IsPermutation-trans _ _ _ (IsPermutation-cons _ _ _ rest) (IsPermutation-sym _ _ (IsPermutation-middle (map elapse_row elapses) (ended_row loaded unguarded timer) (map end_row ends))))
  one_more timer index (x ∷ xs) rows elapses ends at rest =
      subst (λ (t : LoadedTimer). IsPermutation (elapsing_row loaded unguarded x timer ∷ rows) (elapsing_row loaded unguarded x t ∷ (map elapse_row elapses ++ map end_row ends))) (sym at)
      (IsPermutation-cons _ _ _ rest)

  rows_from : (pre post : List LoadedTimer) (index : ℕ) → index ≡ length pre → loaded.timers.items ≡ pre ++ post
      → IsPermutation (map (λ timer. row_by loaded unguarded timer (instants timer)) post)
      (map elapse_row (of_each next_of_one index (map instants post)) ++ map end_row (of_each index_if_ended index (map instants post)))
  rows_from pre [] index is whole = IsPermutation-refl []
  rows_from pre (timer ∷ post) index is whole =
      one_more timer index (instants timer) _ _ _
      (ap (λ (ts : List LoadedTimer). get_or ts index d) whole ∙ ap (λ (n : ℕ). get_or (pre ++ timer ∷ post) n d) is ∙ at_seam pre timer post d)
      (rows_from (pre ++ timer ∷ []) post (index + 1)
      (ap (λ (n : ℕ). n + 1) is ∙ sym (length-append pre (timer ∷ [])))
      (whole ∙ sym (append_assoc pre (timer ∷ []) post)))

  -- if all elapses in `rest` are of timers below `m`, and the timer `n` is below `m`, this is still true with the next
  -- elapse of `n` in front
  below_next : (n m : ℕ) (xs : List ℤ) (rest : List Elapse) → n < m → AllByRecursion (λ elapse. elapse.timer < m) rest
      → AllByRecursion (λ elapse. elapse.timer < m) (next_of_one n xs ++ rest)
  below_next n m [] rest less all = all
  below_next n m (x ∷ xs) rest less all = (less, all)

  next_below : (n m : ℕ) (lists : List (List ℤ)) → n + length lists ≤ m → AllByRecursion (λ elapse. elapse.timer < m) (of_each next_of_one n lists)
  next_below n m [] fits = tt
  next_below n m (xs ∷ lists) fits = below_next n m xs (of_each next_of_one (n + 1) lists) (omega arith) (next_below (n + 1) m lists (omega arith))

  below_ended : (n m : ℕ) (xs : List ℤ) (rest : List ℕ) → n < m → AllByRecursion (λ index. index < m) rest
      → AllByRecursion (λ index. index < m) (index_if_ended n xs ++ rest)
  below_ended n m [] rest less all = (less, all)
  below_ended n m (x ∷ xs) rest less all = all

  ended_below : (n m : ℕ) (lists : List (List ℤ)) → n + length lists ≤ m → AllByRecursion (λ index. index < m) (of_each index_if_ended n lists)
  ended_below n m [] fits = tt
  ended_below n m (xs ∷ lists) fits = below_ended n m xs (of_each index_if_ended (n + 1) lists) (omega arith) (ended_below (n + 1) m lists (omega arith))

  -- if all elapses, as contracts see them, are of timers below `m`, so are the elapses themselves
  seen_below : (m : ℕ) (elapses : List TimerElapse) → AllByRecursion (λ elapse. elapse.timer < m) (map elapse_seen elapses)
      → AllByRecursion (λ elapse. elapse.timer < m) elapses
  seen_below m [] all = tt
  seen_below m (x ∷ xs) all = (all.0, seen_below m xs all.1)

  row_of_index : (index : ℕ) (row : LoadedTimer → UnitView) → index < length loaded.timers.items
      → row_if row (slice_get loaded.timers.items index) ≡ row (get_or loaded.timers.items index d) ∷ []
  row_of_index index row less = ap (row_if row) (slice_get-get_or loaded.timers.items index d less)

  elapses_one : (elapses : List TimerElapse) → AllByRecursion (λ elapse. elapse.timer < length loaded.timers.items) elapses
      → AllByRecursion (λ elapse. row_at_elapse loaded unguarded elapse ≡ elapse_row (elapse_seen elapse) ∷ []) elapses
  unfolding elapse_row
  elapses_one [] all = tt
  elapses_one (x ∷ xs) all = (row_of_index x.timer (elapsing_row loaded unguarded x.instant.secs) all.0, elapses_one xs all.1)

  ends_one : (ends : List ℕ) → AllByRecursion (λ index. index < length loaded.timers.items) ends
      → AllByRecursion (λ index. row_of_ended loaded unguarded index ≡ end_row index ∷ []) ends
  unfolding end_row
  ends_one [] all = tt
  ends_one (x ∷ xs) all = (row_of_index x (ended_row loaded unguarded) all.0, ends_one xs all.1)

  -- there is one row for each timer, whatever the default `d` is
  timers_have_rows : (soonest : List TimerElapse) → IsPermutation (next_of_each (map instants loaded.timers.items)) (map elapse_seen soonest)
      → IsPermutation (map (λ timer. row_by loaded unguarded timer (instants timer)) loaded.timers.items)
      (elapsing_rows loaded unguarded soonest ++ ended_rows loaded unguarded (ended (map instants loaded.timers.items)))
  timers_have_rows soonest same =
      let lists = map instants loaded.timers.items in
      let m = length loaded.timers.items in
      let long : length lists ≡ m = length-map loaded.timers.items instants in
      let fits : 0 + length lists ≤ m = omega arith in
      let below = recursion_from_All (λ (elapse : Elapse). elapse.timer < m) (map elapse_seen soonest)
      (All-permutation (λ (elapse : Elapse). elapse.timer < m) (next_of_each lists) (map elapse_seen soonest) same (All-from_recursion (λ (elapse : Elapse). elapse.timer < m) (next_of_each lists) (next_below 0 m lists fits))) in
      let first : elapsing_rows loaded unguarded soonest ≡ map elapse_row (map elapse_seen soonest)
      = each_one (row_at_elapse loaded unguarded) (λ elapse. elapse_row (elapse_seen elapse)) soonest (elapses_one soonest (seen_below m soonest below))
      ∙ sym (map-map elapse_row elapse_seen soonest) in
      let last : ended_rows loaded unguarded (ended lists) ≡ map end_row (ended lists)
      = each_one (row_of_ended loaded unguarded) end_row (ended lists) (ends_one (ended lists) (ended_below 0 m lists fits)) in
      rw (first, last)
      (IsPermutation-trans _ _ _ (rows_from [] loaded.timers.items 0 refl refl)
      (IsPermutation-append_left (map end_row (ended lists)) _ _ (IsPermutation-map elapse_row (next_of_each lists) (map elapse_seen soonest) same)))

-- without timers there are no elapses of timers
no_timer : (loaded : Loaded) (instants : LoadedTimer → List ℤ) (soonest : List TimerElapse) → loaded.timers.items ≡ []
    → IsPermutation (next_of_each (map instants loaded.timers.items)) (map elapse_seen soonest) → soonest ≡ []
no_timer loaded instants [] none same = refl
no_timer loaded instants (x ∷ xs) none same =
    let long : suc (length (map elapse_seen xs)) ≡ length (next_of_each (map instants loaded.timers.items))
    = length_permutation (next_of_each (map instants loaded.timers.items)) (map elapse_seen (x ∷ xs)) same in
    let short : length (next_of_each (map instants loaded.timers.items)) ≡ 0 = ap (λ (ts : List LoadedTimer). length (next_of_each (map instants ts))) none in
    absurd (omega arith)

rows_of_timers : (loaded : Loaded) (unguarded : List UnguardedView) (instants : LoadedTimer → List ℤ) (soonest : List TimerElapse) (timers : List LoadedTimer) → loaded.timers.items ≡ timers
    → IsPermutation (next_of_each (map instants loaded.timers.items)) (map elapse_seen soonest)
    → IsPermutation (map (λ timer. row_by loaded unguarded timer (instants timer)) loaded.timers.items)
    (elapsing_rows loaded unguarded soonest ++ ended_rows loaded unguarded (ended (map instants loaded.timers.items)))
rows_of_timers loaded unguarded instants soonest [] none same =
    subst (λ (ts : List LoadedTimer). IsPermutation (map (λ timer. row_by loaded unguarded timer (instants timer)) ts)
    (elapsing_rows loaded unguarded soonest ++ ended_rows loaded unguarded (ended (map instants ts)))) (sym none)
    (subst (λ (elapses : List TimerElapse). IsPermutation [] (elapsing_rows loaded unguarded elapses ++ [])) (sym (no_timer loaded instants soonest none same)) (IsPermutation-refl []))
rows_of_timers loaded unguarded instants soonest (d ∷ timers) some same = timers_have_rows loaded unguarded instants d soonest same

pub one_row_each : (at : Present) (loaded : Loaded) (masked : List (List ℕ)) (unguarded : List UnguardedView) (rows : List UnitView) → IsListOf at loaded masked unguarded rows
    → IsPermutation ((map (timer_row at loaded unguarded) loaded.timers.items ++ masked_rows masked) ++ failed_rows loaded.faults.items) rows
one_row_each at loaded masked unguarded rows is =
    rw is.joined
    (IsPermutation-append_left (failed_rows loaded.faults.items) _ _
    (IsPermutation-append_left (masked_rows masked) _ _
    (rows_of_timers loaded unguarded (elapses_in at at.now.secs) is.soonest loaded.timers.items refl is.all)))
