-- Lemmas on the rows of `between`: at each instant, they are those of the timers that elapse then.
use Rattle.std.proofs.Common.{◌≡◌, ◌⊎◌, ◌↔◌, ℕ, ℤ, ◌+◌, ◌<◌, ◌≤◌, pos, ◌-ℤ◌, ◌<ℤ◌, ◌≤ℤ◌, ◌==◌, ◌&&◌, ◌||◌, Bool, true, false, cond, List, [], ◌∷◌, ◌++◌, Option, None, Some, inl, inr, refl, sym, ap, subst, ◌∙◌, arith, append_assoc, append-nil, flat_map, get_or, length, map, slice_get, length-append, true≢false, IsPermutation}
use Rattle.std.proofs.lemmas.Bool.{cases_lt}
use Rattle.std.proofs.lemmas.Bool.Decides.{Decides-int_eq}
use Rattle.std.proofs.lemmas.Cmp.{int_cmp_total, nat_cmp_total, on_total, then_total}
use Rattle.std.proofs.lemmas.Grind.{flat_map-append}
use Rattle.std.proofs.lemmas.Int.{by_lt_z, ints}
use Rattle.std.proofs.lemmas.List.Elements.{filter-append}
use Rattle.std.proofs.lemmas.List.Folds.{flat_map-map}
use Rattle.std.proofs.lemmas.List.Sorted.{ranks_by, sorted_far, sum_by-IsPermutation}
use Rattle.std.proofs.lemmas.List.Sums.{sum_by-cons}
use Rattle.std.proofs.lemmas.Map.Keys.{sorted_tail}
use Rattle.std.specs.Cmp.{int_cmp_is, nat_cmp_is}
use Rattle.std.specs.List.{AllByRecursion, sum_by, filter}
use Rattle.std.specs.List.Sorted.{IsSorted, IsSortedByKey, IsStrictlySortedBy}
use Rattle.std.specs.Ordering.{int_cmp, int_eq, is_lt, nat_cmp, ordering_then}
use Rattle.std.specs.Set.{is_member}
use Rattle.std.specs.declared.cmp.Ordering.{Ordering}
use Rattle.std.specs.declared.cmp.Ordering.TheVariants.{Less, Equal, Greater}
use Rattle.cal_rising.proofs.RisingLemmas.{above_first, Has-map, Has-mapped}
use Rattle.cal_rising.proofs.WithoutLemmas.{Has-is_member, is_member-Has}
use Rattle.cal_rising.specs.rules.Elements.{Has}
use Rattle.cal_load.specs.declared.loaded.LoadedTimer.{LoadedTimer}
use Rattle.cal_timers_report.specs.rules.ReportView.{ElapseView}
use Rattle.cal_tasks.proofs.InOrderLemmas.{AreBefore, AreInOrder, in_order-append, in_order-flat_map, in_order-indices, in_order-map, sorted-in_order}
use Rattle.cal_tasks.proofs.SameLemmas.{rising}
use Rattle.cal_tasks.specs.declared.present.Present.{Present}
use Rattle.cal_tasks.specs.declared.timer_elapse.TimerElapse.{TimerElapse}
use Rattle.cal_tasks.specs.rules.BetweenLaw.{IsElapseRow, elapses_then, row_at, rows_at}
use Rattle.cal_tasks.specs.rules.BetweenReport.{AreBetween, named, named_at}
use Rattle.cal_tasks.specs.rules.LoadedElapses.{elapses_in}
use Rattle.cal_tasks.specs.rules.SeveralTimers.{Elapse, by_instant, elapse_seen, in_range, of_each, range_of_each, range_of_one}

-- ## Increasing indices

abbrev IsAtMost : ℕ → ℕ → Type 0
IsAtMost x y = x ≤ y

-- whether the numbers are the same, as 1 or 0
abbrev one_if : ℕ → ℕ → ℕ
one_if k x = cond (x == k) 1 0

-- how often the number is in the list
abbrev times : ℕ → List ℕ → ℕ
times k [] = 0
times k (x ∷ xs) = one_if k x + times k xs

once : (k : ℕ) → one_if k k ≡ 1
once k = grind arith

not_once : (k x : ℕ) → k < x → one_if k x ≡ 0
not_once k x less = grind arith

none_of : (k x : ℕ) (xs : List ℕ) → k < x → AllByRecursion (IsAtMost x) xs → times k xs ≡ 0
none_of k x [] less all = refl
none_of k x (y ∷ ys) less all =
    let up : x ≤ y = all.0 in
    let here : one_if k y ≡ 0 = not_once k y (omega arith) in
    let later : times k ys ≡ 0 = none_of k x ys less all.1 in
    omega arith

-- two increasing lists that have each number equally often are the same
same_numbers : (xs ys : List ℕ) → AreInOrder IsAtMost xs → AreInOrder IsAtMost ys → ((k : ℕ) → times k xs ≡ times k ys) → xs ≡ ys
same_numbers [] [] h k same = refl
same_numbers [] (y ∷ ys) h k same = absurd (let here : one_if y y ≡ 1 = once y in let e = same y in omega arith)
same_numbers (x ∷ xs) [] h k same = absurd (let here : one_if x x ≡ 1 = once x in let e = same x in omega arith)
same_numbers (x ∷ xs) (y ∷ ys) h k same =
    elim (cases_lt x y) [
      | inl less ↦ absurd (
          let here : one_if x x ≡ 1 = once x in
          let there : one_if x y ≡ 0 = not_once x y less in
          let none : times x ys ≡ 0 = none_of x y ys less k.0 in
          let e : one_if x x + times x xs ≡ one_if x y + times x ys = same x in
          omega arith)
      | inr upto ↦ elim (cases_lt y x) [
        | inl less ↦ absurd (
            let here : one_if y y ≡ 1 = once y in
            let there : one_if y x ≡ 0 = not_once y x less in
            let none : times y xs ≡ 0 = none_of y x xs less h.0 in
            let e : one_if y x + times y xs ≡ one_if y y + times y ys = same y in
            omega arith)
        | inr down ↦
            let e : x ≡ y = omega arith in
            let rest = same_numbers xs ys h.1 k.1 (λ n.
            let more : one_if n y + times n xs ≡ one_if n y + times n ys
            = subst (λ (z : ℕ). one_if n z + times n xs ≡ one_if n y + times n ys) e (same n) in
            omega arith) in
            (λ i. e i ∷ rest i)
      ]
    ]

times-append : (k : ℕ) (xs ys : List ℕ) → times k (xs ++ ys) ≡ times k xs + times k ys
times-append k [] ys = omega arith
times-append k (x ∷ xs) ys = let rest : times k (xs ++ ys) ≡ times k xs + times k ys = times-append k xs ys in omega arith

-- ## The indices of the timers that elapse at an instant

-- the index of the timer, if the elapse is at `secs`
abbrev index_at : ℤ → Elapse → List ℕ
index_at secs elapse = cond (int_eq elapse.secs secs) (elapse.timer ∷ []) []

abbrev indices_at : ℤ → List Elapse → List ℕ
indices_at secs = flat_map (index_at secs)

times-sum : (k : ℕ) (secs : ℤ) (es : List Elapse) → times k (indices_at secs es) ≡ sum_by (λ e. times k (index_at secs e)) es
times-sum k secs [] = refl
times-sum k secs (e ∷ es) =
    times-append k (index_at secs e) (indices_at secs es)
    ∙ ap (λ (n : ℕ). times k (index_at secs e) + n) (times-sum k secs es)
    ∙ sym (sum_by-cons (λ e. times k (index_at secs e)) e es)

times-permutation : (k : ℕ) (secs : ℤ) (es fs : List Elapse) → IsPermutation es fs → times k (indices_at secs fs) ≡ times k (indices_at secs es)
times-permutation k secs es fs same =
    times-sum k secs fs ∙ sum_by-IsPermutation (λ e. times k (index_at secs e)) es fs same ∙ sym (times-sum k secs es)

-- the first elapse isn't after the second, in the order of `by_instant`
abbrev pub IsUpTo : Elapse → Elapse → Type 0
IsUpTo x y = (x.secs <ℤ y.secs) ⊎ ((x.secs ≡ y.secs) × (x.timer ≤ y.timer))

not_less : (m n : ℕ) → is_lt (nat_cmp m n) ≡ false → n ≤ m
not_less m n h = elim (cases_lt m n) [ inl less ↦ absurd (true≢false (ap is_lt (nat_cmp_is m n Less less) ∙ h)) | inr ge ↦ ge ]

up_to : (x y : Elapse) → is_lt (ordering_then (int_cmp y.secs x.secs) (nat_cmp y.timer x.timer)) ≡ false → IsUpTo x y
up_to x y h =
    let then : Ordering → Bool = λ o. is_lt (ordering_then o (nat_cmp y.timer x.timer)) in
    by_lt_z x.secs y.secs (λ lt. inl lt)
    (λ ge. by_lt_z y.secs x.secs
    (λ lt. absurd (true≢false (ap then (int_cmp_is y.secs x.secs Less lt) ∙ h)))
    (λ le.
    let e : y.secs ≡ x.secs = omega (arith, ints) in
    inr (sym e, not_less y.timer x.timer (ap then (int_cmp_is y.secs x.secs Equal e) ∙ h))))

pub timers_in_order : (elapses : List TimerElapse) → IsSorted by_instant elapses → AreInOrder (λ x y. IsUpTo (elapse_seen x) (elapse_seen y)) elapses
timers_in_order elapses sorted =
    let total = then_total (on_total (λ (e : TimerElapse). e.instant.secs) int_cmp_total) (on_total (λ (e : TimerElapse). e.timer) nat_cmp_total) in
    in_order-indices (λ x y. IsUpTo (elapse_seen x) (elapse_seen y)) elapses
    (λ i j d low high. up_to (elapse_seen (get_or elapses i d)) (elapse_seen (get_or elapses j d))
    (sorted_far (λ x y. is_lt (by_instant x y)) (ranks_by total (λ e. e)) elapses sorted i j d low high))

elapses_in_order : (elapses : List TimerElapse) → IsSorted by_instant elapses → AreInOrder IsUpTo (map elapse_seen elapses)
elapses_in_order elapses sorted = in_order-map IsUpTo elapse_seen elapses (timers_in_order elapses sorted)

abbrev named_seen : List LoadedTimer → Elapse → List ElapseView
named_seen timers elapse = named_at elapse.secs (slice_get timers elapse.timer)

one_in_order : (n : ℕ) (b : Bool) → AreInOrder IsAtMost (cond b (n ∷ []) [])
one_in_order n true = (tt, tt)
one_in_order n false = tt

indices_before : (secs : ℤ) (x y : Elapse) (b c : Bool) → int_eq x.secs secs ≡ b → int_eq y.secs secs ≡ c → IsUpTo x y
    → AreBefore IsAtMost (cond b (x.timer ∷ []) []) (cond c (y.timer ∷ []) [])
indices_before secs x y true true here there up =
    let e : x.secs ≡ secs = (Decides-int_eq x.secs secs).0 here in
    let f : y.secs ≡ secs = (Decides-int_eq y.secs secs).0 there in
    ((elim up [ inl less ↦ absurd (omega (arith, ints)) | inr same ↦ same.1 ], tt), tt)
indices_before secs x y true false here there up = (tt, tt)
indices_before secs x y false c here there up = tt

indices_in_order : (secs : ℤ) (es : List Elapse) → AreInOrder IsUpTo es → AreInOrder IsAtMost (indices_at secs es)
indices_in_order secs es h =
    in_order-flat_map IsAtMost IsUpTo (index_at secs) (λ e. one_in_order e.timer (int_eq e.secs secs))
    (λ x y up. indices_before secs x y (int_eq x.secs secs) (int_eq y.secs secs) refl refl up) es h

module _ (from before secs : ℤ) where
  abbrev seen : ℕ → List ℤ → List Elapse
  seen n xs = map (λ secs. record { secs = secs; timer = n }) xs

  -- the index of a timer that elapses at these instants, if `secs` is one of them and in the range
  abbrev index_if : ℕ → Bool → List ℕ
  index_if n there = cond (in_range from before secs && there) (n ∷ []) []

  one_more : (n : ℕ) (x : ℤ) (xs : List ℤ) (inside here later : Bool) → in_range from before x ≡ inside → int_eq secs x ≡ here → (here ≡ true → later ≡ false)
      → indices_at secs (range_of_one from before n xs) ≡ index_if n later
      → indices_at secs (seen n (cond inside (x ∷ filter (in_range from before) xs) (filter (in_range from before) xs))) ≡ index_if n (here || later)
  one_more n x xs true true later inside here none rest =
      let same : x ≡ secs = sym ((Decides-int_eq secs x).0 here) in
      let in_here : in_range from before secs ≡ true = subst (λ (i : ℤ). in_range from before i ≡ true) same inside in
      ap (λ (b : Bool). cond b (n ∷ []) [] ++ indices_at secs (range_of_one from before n xs)) ((Decides-int_eq x secs).1 same)
      ∙ ap (λ (ks : List ℕ). n ∷ ks) (rest ∙ (λ i. cond (in_here i && none refl i) (n ∷ []) []))
      ∙ sym (λ i. cond (in_here i && true) (n ∷ []) [])
  one_more n x xs false true later inside here none rest =
      let same : x ≡ secs = sym ((Decides-int_eq secs x).0 here) in
      let outside : in_range from before secs ≡ false = subst (λ (i : ℤ). in_range from before i ≡ false) same inside in
      rest ∙ (λ i. cond (outside i && later) (n ∷ []) []) ∙ sym (λ i. cond (outside i && true) (n ∷ []) [])
  one_more n x xs true false later inside here none rest =
      ap (λ (b : Bool). cond b (n ∷ []) [] ++ indices_at secs (range_of_one from before n xs)) (other_way x secs here) ∙ rest
    where
      other_way : (x y : ℤ) → int_eq y x ≡ false → int_eq x y ≡ false
      other_way x y h = grind (arith, ints)
  one_more n x xs false false later inside here none rest = rest

  not_later : (x : ℤ) (xs : List ℤ) (later : Bool) → is_member int_eq xs secs ≡ later → IsStrictlySortedBy int_cmp (x ∷ xs) → int_eq secs x ≡ true → later ≡ false
  not_later x xs true there rises here =
      let same : secs ≡ x = (Decides-int_eq secs x).0 here in
      let above = above_first x secs xs rises (Has-is_member xs secs there) in
      absurd (omega (arith, ints))
  not_later x xs false there rises here = refl

  -- a timer has at most one elapse at an instant
  one_list : (n : ℕ) (xs : List ℤ) → IsStrictlySortedBy int_cmp xs → indices_at secs (range_of_one from before n xs) ≡ index_if n (is_member int_eq xs secs)
  one_list n [] rises = none (in_range from before secs)
    where
      none : (b : Bool) → [] ≡ cond (b && false) (n ∷ []) []
      none true = refl
      none false = refl
  one_list n (x ∷ xs) rises =
      one_more n x xs (in_range from before x) (int_eq secs x) (is_member int_eq xs secs) refl refl
      (not_later x xs (is_member int_eq xs secs) refl rises) (one_list n xs (sorted_tail int_cmp x xs rises))

  module _ (instants : LoadedTimer → List ℤ) (rises : (timer : LoadedTimer) → IsStrictlySortedBy int_cmp (instants timer)) where
    abbrev elapses_here : LoadedTimer → Bool
    elapses_here timer = in_range from before secs && is_member int_eq (instants timer) secs

    -- the indices of the timers that elapse at `secs`; `n` is the index of the first timer
    abbrev passing : ℕ → List LoadedTimer → List ℕ
    passing n [] = []
    passing n (timer ∷ timers) = cond (elapses_here timer) (n ∷ []) [] ++ passing (n + 1) timers

    range_passing : (n : ℕ) (timers : List LoadedTimer) → indices_at secs (of_each (range_of_one from before) n (map instants timers)) ≡ passing n timers
    range_passing n [] = refl
    range_passing n (timer ∷ timers) =
        flat_map-append (index_at secs) (range_of_one from before n (instants timer)) (of_each (range_of_one from before) (n + 1) (map instants timers))
        ∙ (λ i. one_list n (instants timer) (rises timer) i ++ range_passing (n + 1) timers i)

    all_if : (m n : ℕ) (b : Bool) (ks : List ℕ) → m ≤ n → AllByRecursion (IsAtMost m) ks → AllByRecursion (IsAtMost m) (cond b (n ∷ []) [] ++ ks)
    all_if m n true ks low all = (low, all)
    all_if m n false ks low all = all

    passing_above : (m n : ℕ) (timers : List LoadedTimer) → m ≤ n → AllByRecursion (IsAtMost m) (passing n timers)
    passing_above m n [] low = tt
    passing_above m n (timer ∷ timers) low = all_if m n (elapses_here timer) (passing (n + 1) timers) low (passing_above m (n + 1) timers (omega arith))

    one_before : (n : ℕ) (b : Bool) (ks : List ℕ) → AllByRecursion (IsAtMost n) ks → AreBefore IsAtMost (cond b (n ∷ []) []) ks
    one_before n true ks all = (all, tt)
    one_before n false ks all = tt

    passing_in_order : (n : ℕ) (timers : List LoadedTimer) → AreInOrder IsAtMost (passing n timers)
    passing_in_order n [] = tt
    passing_in_order n (timer ∷ timers) =
        in_order-append IsAtMost (cond (elapses_here timer) (n ∷ []) []) (passing (n + 1) timers) (one_in_order n (elapses_here timer)) (passing_in_order (n + 1) timers)
        (one_before n (elapses_here timer) (passing (n + 1) timers) (passing_above n (n + 1) timers (omega arith)))

    -- ## The rows

    module _ (all : List LoadedTimer) where
      abbrev row_of : ℕ → List ElapseView
      row_of k = named_at secs (slice_get all k)

      rows_if : (n : ℕ) (timer : LoadedTimer) (b : Bool) (ks : List ℕ) (rows : List LoadedTimer) → slice_get all n ≡ Some timer → flat_map row_of ks ≡ map (row_at secs) rows
          → flat_map row_of (cond b (n ∷ []) [] ++ ks) ≡ map (row_at secs) (cond b (timer ∷ rows) rows)
      rows_if n timer true ks rows at rest = (λ i. named_at secs (at i) ++ rest i)
      rows_if n timer false ks rows at rest = rest

      after : (pre : List LoadedTimer) (timer : LoadedTimer) (post : List LoadedTimer) → slice_get (pre ++ timer ∷ post) (length pre) ≡ Some timer
      after [] timer post = refl
      after (x ∷ pre) timer post = after pre timer post

      rows_passing : (pre post : List LoadedTimer) (n : ℕ) → n ≡ length pre → all ≡ pre ++ post → flat_map row_of (passing n post) ≡ map (row_at secs) (filter elapses_here post)
      rows_passing pre [] n is whole = refl
      rows_passing pre (timer ∷ post) n is whole =
          rows_if n timer (elapses_here timer) (passing (n + 1) post) (filter elapses_here post)
          ((λ i. slice_get (whole i) (is i)) ∙ after pre timer post)
          (rows_passing (pre ++ timer ∷ []) post (n + 1)
          (ap (λ (m : ℕ). m + 1) is ∙ sym (length-append pre (timer ∷ [])))
          (whole ∙ sym (append_assoc pre (timer ∷ []) post)))

      row_then : (here : ℤ) (timer : Option LoadedTimer) (b : Bool) → int_eq here secs ≡ b → rows_at secs (named_at here timer) ≡ cond b (named_at secs timer) []
      row_then here None true same = refl
      row_then here None false same = refl
      row_then here (Some timer) true same =
          ap (λ (b : Bool). cond b (row_at here timer ∷ []) []) same ∙ ap (λ (i : ℤ). row_at i timer ∷ []) ((Decides-int_eq here secs).0 same)
      row_then here (Some timer) false same = ap (λ (b : Bool). cond b (row_at here timer ∷ []) []) same

      row_of_if : (n : ℕ) (b : Bool) → cond b (named_at secs (slice_get all n)) [] ≡ flat_map row_of (cond b (n ∷ []) [])
      row_of_if n true = sym (append-nil (row_of n))
      row_of_if n false = refl

      rows_of_indices : (es : List Elapse) → rows_at secs (flat_map (named_seen all) es) ≡ flat_map row_of (indices_at secs es)
      rows_of_indices [] = refl
      rows_of_indices (e ∷ es) =
          filter-append (λ row. int_eq row.secs secs) (named_seen all e) (flat_map (named_seen all) es)
          ∙ (λ i. (row_then e.secs (slice_get all e.timer) (int_eq e.secs secs) refl ∙ row_of_if e.timer (int_eq e.secs secs)) i ++ rows_of_indices es i)
          ∙ sym (flat_map-append row_of (index_at secs e) (indices_at secs es))

      -- the rows at an instant are those of the timers that elapse then, in their order
      rows_at_instant : (elapses : List TimerElapse) → IsSorted by_instant elapses → IsPermutation (range_of_each from before (map instants all)) (map elapse_seen elapses)
          → rows_at secs (named all elapses) ≡ map (row_at secs) (filter elapses_here all)
      rows_at_instant elapses sorted same =
          let found = map elapse_seen elapses in
          let numbers : indices_at secs found ≡ passing 0 all
          = same_numbers (indices_at secs found) (passing 0 all) (indices_in_order secs found (elapses_in_order elapses sorted)) (passing_in_order 0 all)
          (λ k. times-permutation k secs (range_of_each from before (map instants all)) found same ∙ ap (times k) (range_passing 0 all)) in
          ap (rows_at secs) (sym (flat_map-map (named_seen all) elapse_seen elapses))
          ∙ rows_of_indices found
          ∙ ap (flat_map row_of) numbers
          ∙ rows_passing [] all 0 refl refl

-- ## The order of the rows

abbrev IsNotAfter : ElapseView → ElapseView → Type 0
IsNotAfter x y = x.secs ≤ℤ y.secs

row_in_order : (secs : ℤ) (timer : Option LoadedTimer) → AreInOrder IsNotAfter (named_at secs timer)
row_in_order secs None = tt
row_in_order secs (Some timer) = (tt, tt)

rows_before : (here there : ℤ) (one other : Option LoadedTimer) → here ≤ℤ there → AreBefore IsNotAfter (named_at here one) (named_at there other)
rows_before here there None other up = tt
rows_before here there (Some one) None up = (tt, tt)
rows_before here there (Some one) (Some other) up = ((up, tt), tt)

pub not_after : (x y : Elapse) → IsUpTo x y → x.secs ≤ℤ y.secs
not_after x y (inl less) = omega (arith, ints)
not_after x y (inr same) = let e = same.0 in omega (arith, ints)

not_sooner : (x y : ℤ) → x ≤ℤ y → is_lt (int_cmp y x) ≡ false
not_sooner x y up =
    by_lt_z x y (λ lt. sym (ap is_lt (int_cmp_is y x Greater lt)))
    (λ ge. sym (ap is_lt (int_cmp_is y x Equal (omega (arith, ints)))))

rows_sorted : (all : List LoadedTimer) (elapses : List TimerElapse) → IsSorted by_instant elapses → IsSortedByKey (λ row. row.secs) int_cmp (named all elapses)
rows_sorted all elapses sorted =
    subst (λ (rows : List ElapseView). IsSortedByKey (λ row. row.secs) int_cmp rows) (flat_map-map (named_seen all) elapse_seen elapses)
    (sorted-in_order IsNotAfter (λ x y. is_lt (int_cmp x.secs y.secs)) (λ x y up. not_sooner x.secs y.secs up) (flat_map (named_seen all) (map elapse_seen elapses))
    (in_order-flat_map IsNotAfter IsUpTo (named_seen all) (λ e. row_in_order e.secs (slice_get all e.timer))
    (λ x y up. rows_before x.secs y.secs (slice_get all x.timer) (slice_get all y.timer) (not_after x y up))
    (map elapse_seen elapses) (elapses_in_order elapses sorted)))

-- ## Which rows there are

module _ {X : Type 0} (test : X → Bool) where
  kept_if : (x y : X) (ys : List X) (b : Bool) → test y ≡ b → test x ≡ true → (Has ys x → Has (filter test ys) x) → Has (y ∷ ys) x → Has (cond b (y ∷ filter test ys) (filter test ys)) x
  kept_if x y ys true is passes rest (inl same) = inl same
  kept_if x y ys true is passes rest (inr later) = inr (rest later)
  kept_if x y ys false is passes rest (inl same) = absurd (true≢false (sym passes ∙ ap test (sym same) ∙ is))
  kept_if x y ys false is passes rest (inr later) = rest later

  Has-kept : (xs : List X) (x : X) → test x ≡ true → Has xs x → Has (filter test xs) x
  Has-kept [] x passes m = absurd m
  Has-kept (y ∷ ys) x passes m = kept_if x y ys (test y) refl passes (Has-kept ys x passes) m

  was_if : (x y : X) (ys : List X) (b : Bool) → test y ≡ b → (Has (filter test ys) x → Has ys x × (test x ≡ true)) → Has (cond b (y ∷ filter test ys) (filter test ys)) x
      → Has (y ∷ ys) x × (test x ≡ true)
  was_if x y ys true is rest (inl same) = (inl same, ap test (sym same) ∙ is)
  was_if x y ys true is rest (inr later) = (inr (rest later).0, (rest later).1)
  was_if x y ys false is rest m = (inr (rest m).0, (rest m).1)

  Has-filtered : (xs : List X) (x : X) → Has (filter test xs) x → Has xs x × (test x ≡ true)
  Has-filtered [] x m = absurd m
  Has-filtered (y ∷ ys) x m = was_if x y ys (test y) refl (Has-filtered ys x) m

same_int : (i : ℤ) → int_eq i i ≡ true
same_int i = (Decides-int_eq i i).1 refl

inside : (from before secs : ℤ) (there : Bool) → (in_range from before secs && there) ≡ true → (from ≤ℤ secs) × (secs <ℤ before) × (there ≡ true)
inside from before secs there h = grind (arith, ints)

inside_if : (from before secs : ℤ) (there : Bool) → from ≤ℤ secs → secs <ℤ before → there ≡ true → (in_range from before secs && there) ≡ true
inside_if from before secs there low high is = grind (arith, ints)

module _ (at : Present) (from before : ℤ) (timers : List LoadedTimer) (rows : List ElapseView) (is : AreBetween at from before timers rows) where
  -- at each instant, the rows are those of the timers that elapse then
  pub rows_are_those : (secs : ℤ) → rows_at secs rows ≡ map (row_at secs) (filter (elapses_then at from before secs) timers)
  rows_are_those secs =
      ap (rows_at secs) is.each
      ∙ rows_at_instant from before secs (elapses_in at (from -ℤ pos 1)) (λ timer. rising at (from -ℤ pos 1) timer) timers is.elapses is.sorted is.all

  pub rows_rise : IsSortedByKey (λ row. row.secs) int_cmp rows
  rows_rise = subst (λ (l : List ElapseView). IsSortedByKey (λ row. row.secs) int_cmp l) (sym is.each) (rows_sorted timers is.elapses is.sorted)

  elapse_of_row : (row : ElapseView) → Has rows row → IsElapseRow at from before timers row
  elapse_of_row row m =
      let here : Has (map (row_at row.secs) (filter (elapses_then at from before row.secs) timers)) row
      = subst (λ (l : List ElapseView). Has l row) (rows_are_those row.secs) (Has-kept (λ other. int_eq other.secs row.secs) rows row (same_int row.secs) m) in
      let w = Has-mapped (row_at row.secs) (filter (elapses_then at from before row.secs) timers) row here in
      let found = Has-filtered (elapses_then at from before row.secs) timers w.0 w.1 in
      let parts = inside from before row.secs (is_member int_eq (elapses_in at (from -ℤ pos 1) w.0) row.secs) found.1 in
      record {
        timer = w.0;
        among = found.0;
        unit = ap (λ (r : ElapseView). r.unit) (sym w.2);
        elapses = Has-is_member (elapses_in at (from -ℤ pos 1) w.0) row.secs parts.2;
        from_on = parts.0;
        until = parts.1;
      }

  row_of_elapse : (row : ElapseView) → IsElapseRow at from before timers row → Has rows row
  row_of_elapse row found =
      let passes = inside_if from before row.secs (is_member int_eq (elapses_in at (from -ℤ pos 1) found.timer) row.secs) found.from_on found.until (is_member-Has (elapses_in at (from -ℤ pos 1) found.timer) row.secs found.elapses) in
      let here = Has-map (row_at row.secs) (filter (elapses_then at from before row.secs) timers) found.timer (Has-kept (elapses_then at from before row.secs) timers found.timer passes found.among) in
      let there : Has (rows_at row.secs rows) (row_at row.secs found.timer) = subst (λ (l : List ElapseView). Has l (row_at row.secs found.timer)) (sym (rows_are_those row.secs)) here in
      subst (λ (r : ElapseView). Has rows r) (λ i. record { unit = sym found.unit i; secs = row.secs })
      (Has-filtered (λ other. int_eq other.secs row.secs) rows (row_at row.secs found.timer) there).0

  -- there is a row for each elapse of each timer in the range, and no other row
  pub rows_of_elapses : (row : ElapseView) → Has rows row ↔ IsElapseRow at from before timers row
  rows_of_elapses row = (elapse_of_row row, row_of_elapse row)
