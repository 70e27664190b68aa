-- A set of weekdays has exactly one list of runs, which `runs_from` computes day by day. The loop that prints the runs
-- finds them one after another, and prints the text of this list.
use Rattle.std.proofs.Common.{◌≡◌, ℕ, zero, suc, ◌+◌, ◌-◌, ◌<◌, ◌≤◌, cond, Bool, true, false, ◌||◌, nat_eq, nat_le, get_or, List, [], ◌∷◌, ◌++◌, codes, length, drop, refl, sym, ap, ◌∙◌, inl, inr, arith}
use Rattle.std.specs.List.{flat_map, list_all, prefix_len}
use Rattle.std.proofs.lemmas.List.{drop-drop}
use Rattle.std.proofs.lemmas.Bool.{eq-eqb, ne_eqb, eqb-true, eqb-false, le-leb, lt-leb, and_from, and_right, or_left, cases_lt}
use Rattle.std.proofs.lemmas.Bool.Decides.{nat_tests}
use Rattle.cal_spec.specs.rules.Members.{is_between}
use Rattle.std.proofs.lemmas.List.Sums.{prefix_len-le-length}
use Rattle.cal_bytes.specs.rules.Bytes.{joined}
use Rattle.cal_spec.specs.rules.WeekdayRunsRule.{AreApartFrom, AreWeekdayRuns, is_in}
use Rattle.cal_spec.specs.rules.WeekdayRuns.{Run, with_day, runs_from, run_text, runs_text, weekdays_text, text_after_first, day_name}

or_assoc : (x y z : Bool) → ((x || y) || z) ≡ (x || (y || z))
or_assoc x y z = grind arith

run : ℕ → ℕ → Run
run first last = record { first = first; last = last }

-- the number of days that match at the start of the list, before the first day that doesn't
abbrev pub front : List Bool → ℕ
front = prefix_len (λ day. day)

pub front_within : (bs : List Bool) → front bs ≤ length bs
front_within bs = prefix_len-le-length (λ day. day) bs

lower : (low high : ℕ) (rs : List Run) → low ≤ high → AreApartFrom high rs → AreApartFrom low rs
lower low high [] h a = tt
lower low high (r ∷ rs) h a = (omega (arith, a.0), a.1, a.2)

with_day_by : (t : Bool) (day : ℕ) (r : Run) (rs : List Run) → nat_eq r.first (day + 1) ≡ t → AreApartFrom (day + 1) (r ∷ rs)
    → AreApartFrom day (cond t (record { first = day; last = r.last } ∷ rs) (record { first = day; last = day } ∷ r ∷ rs))
with_day_by true day r rs e a = (omega arith, omega (arith, a.0, a.1), a.2)
with_day_by false day r rs e a =
    let other = eqb-false r.first (day + 1) e in
    (omega arith, omega arith, (omega (arith, a.0), a.1, a.2))

with_day_apart : (day : ℕ) (rs : List Run) → AreApartFrom (day + 1) rs → AreApartFrom day (with_day day rs)
with_day_apart day [] a = (omega arith, omega arith, tt)
with_day_apart day (r ∷ rs) a = with_day_by (nat_eq r.first (day + 1)) day r rs refl a

-- the runs of days numbered from `day` on begin at `day` or later, and are separated by at least one day
pub runs_apart : (day : ℕ) (bs : List Bool) → AreApartFrom day (runs_from day bs)
runs_apart day [] = tt
runs_apart day (true ∷ bs) = with_day_apart day (runs_from (day + 1) bs) (runs_apart (day + 1) bs)
runs_apart day (false ∷ bs) = lower day (day + 1) (runs_from (day + 1) bs) (omega arith) (runs_apart (day + 1) bs)

-- if the runs begin at `day + 2` or later, `with_day` adds `day` as a run of its own
with_day-alone : (day : ℕ) (rs : List Run) → AreApartFrom (day + 2) rs → with_day day rs ≡ record { first = day; last = day } ∷ rs
with_day-alone day [] a = refl
with_day-alone day (r ∷ rs) a =
    let other : nat_eq r.first (day + 1) ≡ false = ne_eqb r.first (day + 1) (λ e. absurd (omega (arith, a.0))) in
    rw other

-- if the first run begins at `day + 1`, `with_day` makes this run begin at `day`
with_day-joins : (day last : ℕ) (rs : List Run) → with_day day (record { first = day + 1; last = last } ∷ rs) ≡ record { first = day; last = last } ∷ rs
with_day-joins day last rs = let same : nat_eq (day + 1) (day + 1) ≡ true = eq-eqb (day + 1) (day + 1) refl in rw same

-- if the list is empty or its first day doesn't match, the runs are the runs of the days after the first
pub runs_skip : (day : ℕ) (bs : List Bool) → front bs ≡ 0 → runs_from day bs ≡ runs_from (day + 1) (drop 1 bs)
runs_skip day [] h = refl
runs_skip day (true ∷ bs) h = absurd (omega arith)
runs_skip day (false ∷ bs) h = refl

-- if the first `n + 1` days match, and the day after them, if there is one, doesn't match, then these days are the
-- first run, and the other runs are those of the days from `day + n + 2` on
pub runs_front : (n day : ℕ) (bs : List Bool) → front bs ≡ suc n
    → runs_from day bs ≡ record { first = day; last = day + n } ∷ runs_from (day + n + 2) (drop (suc (suc n)) bs)
runs_front n day [] h = absurd (omega arith)
runs_front n day (false ∷ bs) h = absurd (omega arith)
runs_front zero day (true ∷ bs) h =
    let skip = runs_skip (day + 1) bs (omega arith) in
    let two : day + 1 + 1 ≡ day + 2 = omega arith in
    let rest = runs_from (day + 2) (drop 1 bs) in
    let last : day + 0 ≡ day = omega arith in
    rw (skip, two, with_day-alone day rest (runs_apart (day + 2) (drop 1 bs)), last) refl
runs_front (suc m) day (true ∷ bs) h =
    let inner = runs_front m (day + 1) bs (omega arith) in
    let last : day + 1 + m ≡ day + suc m = omega arith in
    let next : day + suc m + 2 ≡ day + suc m + 2 = refl in
    rw (inner, last) (with_day-joins day (day + suc m) (runs_from (day + suc m + 2) (drop (suc (suc m)) bs)))

-- the text of the runs: `lead` before the first run, commas before the others
abbrev pub led : List ℕ → List Run → List ℕ
led lead [] = []
led lead (r ∷ rs) = run_text lead r ++ flat_map (λ q. codes "," ++ run_text [] q) rs

pub runs_text-led : (rs : List Run) → runs_text rs ≡ led [] rs
unfolding runs_text
runs_text-led [] = refl
runs_text-led (r ∷ rs) = refl

pub led-comma : (rs : List Run) → flat_map (λ q. codes "," ++ run_text [] q) rs ≡ led (codes ",") rs
unfolding run_text
led-comma [] = refl
led-comma (r ∷ rs) = refl

-- Suppose that the days from `day` to `last` are a run, and that `next` is `last + 2`. No run begins at `last + 1`,
-- since that day doesn't match. So the text of the runs from `day` on is the text of this run, followed by the text of
-- the runs from `next` on.
pub led-front : (lead : List ℕ) (day last next n : ℕ) (days : List Bool) → n ≡ front (drop day days) → 0 < n → last ≡ day + n - 1 → next ≡ day + (n + 1)
    → led lead (runs_from day (drop day days)) ≡ run_text lead (record { first = day; last = last }) ++ led (codes ",") (runs_from next (drop next days))
led-front lead day last next zero days e positive at_last at_next = absurd (omega arith)
led-front lead day last next (suc m) days e positive at_last at_next =
    let bs = drop day days in
    let here = runs_front m day bs (sym e) in
    let at_end : last ≡ day + m = omega arith in
    let after : day + m + 2 ≡ next = omega arith in
    let dropped : drop (suc (suc m)) bs ≡ drop next days = drop-drop (suc (suc m)) day days ∙ ap (λ k. drop k days) (omega arith) in
    ap (led lead) here
    ∙ ap (λ t. run_text lead (record { first = day; last = day + m }) ++ t) (led-comma (runs_from (day + m + 2) (drop (suc (suc m)) bs)))
    ∙ rw (at_end, after, dropped) refl

-- if `day` doesn't match, and `next` is the day after it, the text of the runs from `day` on is the text of the runs
-- from `next` on
pub led-skip : (lead : List ℕ) (day next n : ℕ) (days : List Bool) → n ≡ front (drop day days) → n ≡ 0 → next ≡ day + (n + 1)
    → led lead (runs_from day (drop day days)) ≡ led lead (runs_from next (drop next days))
led-skip lead day next n days e none at_next =
    let after : day + 1 ≡ next = omega arith in
    let dropped : drop 1 (drop day days) ≡ drop next days = drop-drop 1 day days ∙ ap (λ k. drop k days) after in
    ap (led lead) (runs_skip day (drop day days) (sym e ∙ none)) ∙ rw (after, dropped) refl

pub weekdays_text-all : (days : List Bool) → list_all (λ day. day) days ≡ true → weekdays_text days ≡ []
unfolding weekdays_text
weekdays_text-all days h = rw h

pub weekdays_text-some : (days : List Bool) → list_all (λ day. day) days ≡ false → weekdays_text days ≡ joined (runs_text (runs_from 0 days) ∷ codes " " ∷ [])
unfolding weekdays_text
weekdays_text-some days h = rw h

pub text_after_first-second : (first last : ℕ) → first + 1 ≡ last → text_after_first first last ≡ joined (codes "," ∷ day_name last ∷ [])
text_after_first-second first last h =
    let other : nat_eq first last ≡ false = ne_eqb first last (λ e. absurd (omega arith)) in
    rw (other, eq-eqb (first + 1) last h)

pub text_after_first-more : (first last : ℕ) → first + 1 < last → text_after_first first last ≡ joined (codes ".." ∷ day_name last ∷ [])
text_after_first-more first last h =
    let other : nat_eq first last ≡ false = ne_eqb first last (λ e. absurd (omega arith)) in
    let no_second : nat_eq (first + 1) last ≡ false = ne_eqb (first + 1) last (λ e. absurd (omega arith)) in
    rw (other, no_second)

-- if the runs begin at `low` or later, they contain no day before `low`
is_in-later : (low day : ℕ) (rs : List Run) → AreApartFrom low rs → day < low → is_in day rs ≡ false
is_in-later low day [] a h = refl
is_in-later low day (r ∷ rs) a h =
    let before : is_between r.first r.last day ≡ false = (let first : nat_le r.first day ≡ false = lt-leb r.first day (omega (arith, a.0)) in rw first refl) in
    rw before (is_in-later (r.last + 2) day rs a.2 (omega (arith, a.0, a.1)))

with_day_in_by : (t : Bool) (day k : ℕ) (r : Run) (rs : List Run) → nat_eq r.first (day + 1) ≡ t → r.first ≤ r.last
    → is_in k (cond t (record { first = day; last = r.last } ∷ rs) (record { first = day; last = day } ∷ r ∷ rs)) ≡ (nat_eq k day || is_in k (r ∷ rs))
with_day_in_by true day k r rs e forward =
    let same = eqb-true r.first (day + 1) e in
    let joined_up : is_between day r.last k ≡ (nat_eq k day || is_between r.first r.last k) = grind (arith, nat_tests) in
    ap (λ b. b || is_in k rs) joined_up ∙ or_assoc (nat_eq k day) (is_between r.first r.last k) (is_in k rs)
with_day_in_by false day k r rs e forward =
    let alone : is_between day day k ≡ nat_eq k day = grind (arith, nat_tests) in
    ap (λ b. b || is_in k (r ∷ rs)) alone

with_day_in : (day k : ℕ) (rs : List Run) → AreApartFrom (day + 1) rs → is_in k (with_day day rs) ≡ (nat_eq k day || is_in k rs)
with_day_in day k [] a =
    let alone : is_between day day k ≡ nat_eq k day = grind (arith, nat_tests) in
    ap (λ b. b || false) alone
with_day_in day k (r ∷ rs) a = with_day_in_by (nat_eq r.first (day + 1)) day k r rs refl a.1

runs_chosen : (low day : ℕ) (bs : List Bool) → is_in (low + day) (runs_from low bs) ≡ get_or bs day false
runs_chosen low day [] = refl
runs_chosen low zero (true ∷ bs) =
    let here : nat_eq (low + 0) low ≡ true = eq-eqb (low + 0) low (omega arith) in
    with_day_in low (low + 0) (runs_from (low + 1) bs) (runs_apart (low + 1) bs) ∙ rw here refl
runs_chosen low (suc k) (true ∷ bs) =
    let other : nat_eq (low + suc k) low ≡ false = ne_eqb (low + suc k) low (λ e. absurd (omega arith)) in
    let next : low + suc k ≡ low + 1 + k = omega arith in
    with_day_in low (low + suc k) (runs_from (low + 1) bs) (runs_apart (low + 1) bs)
    ∙ rw (other, next) (runs_chosen (low + 1) k bs)
runs_chosen low zero (false ∷ bs) = is_in-later (low + 1) (low + 0) (runs_from (low + 1) bs) (runs_apart (low + 1) bs) (omega arith)
runs_chosen low (suc k) (false ∷ bs) =
    let next : low + suc k ≡ low + 1 + k = omega arith in
    rw next (runs_chosen (low + 1) k bs)

pub are_runs : (days : List Bool) → AreWeekdayRuns days (runs_from 0 days)
are_runs days = record {
  chosen = λ day. let start : 0 + day ≡ day = omega arith in (rw start at (runs_chosen 0 day days));
  apart = runs_apart 0 days;
}

run_in : (r : Run) (rs : List Run) (day : ℕ) → r.first ≤ day → day ≤ r.last → is_in day (r ∷ rs) ≡ true
run_in r rs day low high =
    or_left (is_between r.first r.last day) (is_in day rs) (and_from (nat_le r.first day) (nat_le day r.last) (le-leb r.first day low) (le-leb day r.last high))

run_past : (r : Run) (rs : List Run) (day : ℕ) → r.last < day → is_in day (r ∷ rs) ≡ is_in day rs
run_past r rs day past =
    let outside : is_between r.first r.last day ≡ false = and_right (nat_le r.first day) (nat_le day r.last) (lt-leb day r.last past) in
    rw outside refl

contradiction : {A : Type 0} (x y : Bool) → x ≡ true → y ≡ false → x ≡ y → A
contradiction x y holds fails same = absurd (cc)

-- Let `r` be the first run of one list of runs, and let `q` be the first run of another. If both lists contain the same
-- days, `q` doesn't begin later than `r`.
first_le : (r q : Run) (rs qs : List Run) → r.first ≤ r.last → AreApartFrom q.first (q ∷ qs) → ((day : ℕ) → is_in day (r ∷ rs) ≡ is_in day (q ∷ qs))
    → q.first ≤ r.first
first_le r q rs qs forward apart same = elim (cases_lt r.first q.first) [
  | inl early ↦ contradiction _ _ (run_in r rs r.first (omega arith) forward) (is_in-later q.first r.first (q ∷ qs) apart early) (same r.first)
  | inr late ↦ late
]

last_le : (r q : Run) (rs qs : List Run) → q.first ≤ r.last → AreApartFrom (r.last + 2) rs → ((day : ℕ) → is_in day (r ∷ rs) ≡ is_in day (q ∷ qs))
    → q.last ≤ r.last
last_le r q rs qs begun apart same = elim (cases_lt r.last q.last) [
  | inl early ↦
      contradiction _ _ (run_in q qs (r.last + 1) (omega arith) (omega arith))
      (run_past r rs (r.last + 1) (omega arith) ∙ is_in-later (r.last + 2) (r.last + 1) rs apart (omega arith))
      (sym (same (r.last + 1)))
  | inr late ↦ late
]

rest_same : (r q : Run) (rs qs : List Run) → r.last ≡ q.last → AreApartFrom (r.last + 2) rs → AreApartFrom (q.last + 2) qs
    → ((day : ℕ) → is_in day (r ∷ rs) ≡ is_in day (q ∷ qs)) → (day : ℕ) → is_in day rs ≡ is_in day qs
rest_same r q rs qs last a b same day = elim (cases_lt day (r.last + 2)) [
  | inl early ↦ is_in-later (r.last + 2) day rs a early ∙ sym (is_in-later (q.last + 2) day qs b (omega arith))
  | inr late ↦ sym (run_past r rs day (omega arith)) ∙ same day ∙ run_past q qs day (omega arith)
]

-- two lists of runs that are in order and apart (`AreApartFrom`), and that contain the same days, are equal
same_runs : (low other : ℕ) (rs qs : List Run) → AreApartFrom low rs → AreApartFrom other qs → ((day : ℕ) → is_in day rs ≡ is_in day qs) → rs ≡ qs
same_runs low other [] [] a b same = refl
same_runs low other [] (q ∷ qs) a b same = contradiction _ _ (run_in q qs q.first (omega arith) b.1) refl (sym (same q.first))
same_runs low other (r ∷ rs) [] a b same = contradiction _ _ (run_in r rs r.first (omega arith) a.1) refl (same r.first)
same_runs low other (r ∷ rs) (q ∷ qs) a b same =
    let back : (day : ℕ) → is_in day (q ∷ qs) ≡ is_in day (r ∷ rs) = λ day. sym (same day) in
    let later = first_le r q rs qs a.1 (omega arith, b.1, b.2) same in
    let sooner = first_le q r qs rs b.1 (omega arith, a.1, a.2) back in
    let first : r.first ≡ q.first = omega arith in
    let forward = a.1 in
    let onward = b.1 in
    let shorter = last_le r q rs qs (omega arith) a.2 same in
    let longer = last_le q r qs rs (omega arith) b.2 back in
    let last : r.last ≡ q.last = omega arith in
    let rest = same_runs (r.last + 2) (q.last + 2) rs qs a.2 b.2 (rest_same r q rs qs last a.2 b.2 same) in
    let whole : ◌≡◌ {A = List Run} (record { first = r.first; last = r.last } ∷ rs) (record { first = q.first; last = q.last } ∷ qs) = cc in
    whole

pub runs_only : (days : List Bool) (rs : List Run) → AreWeekdayRuns days rs → rs ≡ runs_from 0 days
runs_only days rs h =
    same_runs 0 0 rs (runs_from 0 days) h.apart (runs_apart 0 days) (λ day. h.chosen day ∙ sym ((are_runs days).chosen day))
