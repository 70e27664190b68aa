-- The ring of cells: its elements, the smallest one, and the effect of adding or removing an instant.
use Rattle.std.proofs.Common.{◌≡◌, ◌≢◌, ◌⊎◌, ◌↔◌, ℕ, zero, suc, ◌+◌, ◌-◌, ◌%◌, ◌<◌, ◌≤◌, cond, Bool, true, false, List, [], ◌∷◌, length, min, Option, unwrap_or, ◌==◌, get_or, replicate, inl, inr, None, Some, ◌/◌, unsigned_abs, to_z, w64, ℤ, pos, ◌<ℤ◌, ◌≤ℤ◌, refl, sym, ap, ◌∙◌, subst, arith, slice_get, drop}
use Rattle.std.proofs.lemmas.Bool.{cases_eq, cases_lt}
use Rattle.std.proofs.lemmas.Bool.Decides.{nat_tests}
use Rattle.std.proofs.lemmas.Int.{ints, to_z_pos}
use Rattle.std.proofs.lemmas.List.{length-replicate}
use Rattle.std.proofs.lemmas.Nat.Bits.{bit_at-zero}
use Rattle.std.specs.Ordering.{int_cmp}
use Rattle.std.specs.List.Sorted.{IsStrictlySortedBy}
use Rattle.std.specs.BTreeSet.{insert_key}
use Rattle.std.specs.List.{AllByRecursion}
use Rattle.std.specs.declared.cmp.Ordering.TheVariants.{Less}
use Rattle.cal_zone.specs.rules.Instant.{IsInstant}
use Rattle.cal_elapse.specs.computed.Bits.{is_bit, is_bit_in}
use Rattle.cal_elapse.proofs.BitLemmas.{is_bit-zero}
use Rattle.cal_elapse.specs.computed.Ring.{IsNear, cells_in_all, cells_in_all-is, instants_in, is_held, least_kept, no_second, rising_from, IsRound, IsRoundFrom}
use Rattle.cal_rising.specs.rules.Elements.{Has}
use Rattle.cal_elapse.specs.rules.Search.{IsFirstPassing}
use Rattle.cal_elapse.proofs.ElapsesLemmas.{first-least, first-none}
use Rattle.cal_bytes.proofs.General.{list-first, list-no_first, lt_from_pos, rises-drop}
use Rattle.cal_rising.proofs.RisingLemmas.{Has-insert_key, rises-insert_key, later_members, same_rising}
use Rattle.std.specs.Cmp.{int_cmp_is}

int_cmp-less : (a b : ℤ) → a <ℤ b → int_cmp a b ≡ Less
int_cmp-less a b h = sym (int_cmp_is a b Less h)

lt_of_pos : (at t : ℕ) (i : ℤ) → pos t ≡ i → at < t → pos at <ℤ i
lt_of_pos at t i is h = omega (arith, ints)

get_or-zeros : (n i : ℕ) → get_or {A = ℕ} (replicate n 0) i 0 ≡ 0
get_or-zeros zero i = refl
get_or-zeros (suc n) zero = refl
get_or-zeros (suc n) (suc i) = get_or-zeros n i

-- ## Which of several consecutive numbers pass a test

-- `i` is one of the `n` consecutive numbers that begin with `from`, and passes
record IsAmong (passes : ℕ → Bool) (from n : ℕ) (i : ℤ) : Type 0 where
  at : ℕ
  is : pos at ≡ i
  above : from ≤ at
  below : at < from + n
  holds : passes at ≡ true

Has-one : (b : Bool) (x i : ℤ) (rest : List ℤ) → Has (cond b (x ∷ rest) rest) i ↔ (((b ≡ true) × (x ≡ i)) ⊎ Has rest i)
Has-one b x i rest = grind arith

among_here : (passes : ℕ → Bool) (from n : ℕ) (i : ℤ) → passes from ≡ true → pos from ≡ i → IsAmong passes from (suc n) i
among_here passes from n i holds is = record { at = from; is = is; above = omega arith; below = omega arith; holds = holds }

among_later : (passes : ℕ → Bool) (from n : ℕ) (i : ℤ) → IsAmong passes (suc from) n i → IsAmong passes from (suc n) i
among_later passes from n i a = record { at = a.at; is = a.is; above = omega (arith, a.above); below = omega (arith, a.below); holds = a.holds }

among_split : (passes : ℕ → Bool) (from n : ℕ) (i : ℤ) → IsAmong passes from (suc n) i → ((passes from ≡ true) × (pos from ≡ i)) ⊎ IsAmong passes (suc from) n i
among_split passes from n i a = grind arith

no_number : (passes : ℕ → Bool) (from : ℕ) (i : ℤ) → IsAmong passes from zero i → ⊥
no_number passes from i a = let above = a.above in let below = a.below in omega arith

Has-rising : (passes : ℕ → Bool) (from n : ℕ) (i : ℤ) → Has (rising_from passes from n) i ↔ IsAmong passes from n i
Has-rising passes from zero i = (λ m. absurd m, λ a. no_number passes from i a)
Has-rising passes from (suc n) i =
    let rest = Has-rising passes (suc from) n i in
    let one = Has-one (passes from) (pos from) i (rising_from passes (suc from) n) in (
      λ m. elim (one.0 m) [ inl p ↦ among_here passes from n i p.0 p.1 | inr k ↦ among_later passes from n i (rest.0 k) ],
      λ a. elim (among_split passes from n i a) [ inl p ↦ one.1 (inl p) | inr k ↦ one.1 (inr (rest.1 k)) ],
    )

above_if : (b : Bool) (low x : ℤ) (rest : List ℤ) → int_cmp low x ≡ Less → AllByRecursion (λ y. int_cmp low y ≡ Less) rest → AllByRecursion (λ y. int_cmp low y ≡ Less) (cond b (x ∷ rest) rest)
above_if b low x rest h k = grind arith

next_above : (low : ℤ) (from : ℕ) → low <ℤ pos from → low <ℤ pos (suc from)
next_above low from h = omega (arith, ints)

above-rising : (passes : ℕ → Bool) (low : ℤ) (from n : ℕ) → low <ℤ pos from → AllByRecursion (λ y. int_cmp low y ≡ Less) (rising_from passes from n)
above-rising passes low from zero h = tt
above-rising passes low from (suc n) h =
    above_if (passes from) low (pos from) (rising_from passes (suc from) n) (int_cmp-less low (pos from) h) (above-rising passes low (suc from) n (next_above low from h))

rising_if : (b : Bool) (x : ℤ) (rest : List ℤ) → AllByRecursion (λ y. int_cmp x y ≡ Less) rest → IsStrictlySortedBy int_cmp rest → IsStrictlySortedBy int_cmp (cond b (x ∷ rest) rest)
unfolding IsStrictlySortedBy
rising_if b x rest h k = grind arith

one_above : (from : ℕ) → pos from <ℤ pos (suc from)
one_above from = omega (arith, ints)

rises-rising : (passes : ℕ → Bool) (from n : ℕ) → IsStrictlySortedBy int_cmp (rising_from passes from n)
unfolding IsStrictlySortedBy
rises-rising passes from zero = tt
rises-rising passes from (suc n) =
    rising_if (passes from) (pos from) (rising_from passes (suc from) n) (above-rising passes (pos from) (suc from) n (one_above from)) (rises-rising passes (suc from) n)

-- ## Elements of a ring

-- `i` is one of the 187,200 seconds from `low` on, and its cell is set
pub record IsIn (cells : List ℕ) (low : ℕ) (i : ℤ) : Type 0 where
  pub at : ℕ
  pub is : pos at ≡ i
  pub above : low ≤ at
  pub below : at < low + 187_200
  pub holds : is_held cells at ≡ true

pub Has-instants : (cells : List ℕ) (low : ℕ) (i : ℤ) → Has (instants_in cells low) i ↔ IsIn cells low i
unfolding instants_in
Has-instants cells low i =
    let count = cells_in_all-is in
    let all = Has-rising (is_held cells) low cells_in_all i in (
      λ m. let a = all.0 m in record { at = a.at; is = a.is; above = a.above; below = omega (arith, a.below); holds = a.holds },
      λ a. all.1 (record { at = a.at; is = a.is; above = a.above; below = omega (arith, a.below); holds = a.holds }),
    )

pub rises-instants : (cells : List ℕ) (low : ℕ) → IsStrictlySortedBy int_cmp (instants_in cells low)
unfolding instants_in
rises-instants cells low = rises-rising (is_held cells) low cells_in_all

near_in : (low a b : ℕ) (i j : ℤ) → pos a ≡ i → pos b ≡ j → low ≤ a → a < low + 187_200 → low ≤ b → b < low + 187_200 → IsNear i j
near_in low a b i j p q al ah bl bh = (omega (arith, ints), omega (arith, ints))

-- any two elements are less than 187,200 seconds apart
pub members_near : (cells : List ℕ) (low : ℕ) (i j : ℤ) → Has (instants_in cells low) i → Has (instants_in cells low) j → IsNear i j
members_near cells low i j m n =
    let a = (Has-instants cells low i).0 m in
    let b = (Has-instants cells low j).0 n in
    near_in low a.at b.at i j a.is b.is a.above a.below b.above b.below

-- if two of the 187,200 seconds from `low` on have the same cell, they are equal
pub same_second : (low i j : ℕ) → low ≤ i → i < low + 187_200 → low ≤ j → j < low + 187_200 → i % 187_200 ≡ j % 187_200 → i ≡ j
same_second low i j il ih jl jh same = omega arith

-- `at` is the one second in the range `low..low + 187_200` that has the same cell as `i`
record Turned (low i : ℕ) : Type 0 where
  at : ℕ
  above : low ≤ at
  below : at < low + 187_200
  same : at % 187_200 ≡ i % 187_200

turned : (low i : ℕ) → Turned low i
turned low i =
    elim (cases_lt (i % 187_200) (low % 187_200)) [
      | inl early ↦ record { at = low - low % 187_200 + 187_200 + i % 187_200; above = omega arith; below = omega arith; same = omega arith }
      | inr late ↦ record { at = low - low % 187_200 + i % 187_200; above = omega arith; below = omega arith; same = omega arith }
    ]

held_by : (cells : List ℕ) (i j : ℕ) → i % 187_200 ≡ j % 187_200 → is_held cells i ≡ is_held cells j
unfolding is_held
held_by cells i j same = ap (is_bit_in cells) same

pub member : (cells : List ℕ) (low at : ℕ) → low ≤ at → at < low + 187_200 → is_held cells at ≡ true → Has (instants_in cells low) (pos at)
member cells low at above below holds =
    (Has-instants cells low (pos at)).1 (record { at = at; is = refl; above = above; below = below; holds = holds })

-- ## The smallest element

at_most : (at t : ℕ) (j : ℤ) → pos t ≡ j → at ≤ t → pos at ≤ℤ j
at_most at t j is h = omega (arith, ints)

not_before : (cells : List ℕ) (low at t : ℕ) → IsFirstPassing (is_held cells) low (low + 187_200) (Some at) → low ≤ t → is_held cells t ≡ true → at ≤ t
not_before cells low at t found above holds = grind arith

pub first_found : (cells : List ℕ) (low at : ℕ) → IsFirstPassing (is_held cells) low (low + 187_200) (Some at) → slice_get (instants_in cells low) 0 ≡ Some (pos at)
first_found cells low at found =
    first-least (instants_in cells low) (pos at) (rises-instants cells low) (member cells low at found.0 found.1 found.2)
    (λ j m. let a = (Has-instants cells low j).0 m in at_most at a.at j a.is (not_before cells low at a.at found a.above a.holds))

pub none_found : (cells : List ℕ) (low : ℕ) → IsFirstPassing (is_held cells) low (low + 187_200) None → slice_get (instants_in cells low) 0 ≡ None
none_found cells low none =
    first-none (instants_in cells low) (λ i m. let a = (Has-instants cells low i).0 m in let fails = none a.at a.above a.below in let holds = a.holds in cc)

-- ## The smallest second, as it is stored

pub kept_some : (least : ℕ) → least ≢ no_second → least_kept least ≡ Some least
kept_some least some = let test : (least == no_second) ≡ false = grind (arith, nat_tests) in rw test refl

pub found_kept : (cells : List ℕ) (least : ℕ) → IsFirstPassing (is_held cells) least (least + 187_200) (least_kept least) → least ≢ no_second
    → IsFirstPassing (is_held cells) least (least + 187_200) (Some least)
found_kept cells least first some = subst (IsFirstPassing (is_held cells) least (least + 187_200)) (kept_some least some) first

pub none_kept : (cells : List ℕ) (least : ℕ) → IsFirstPassing (is_held cells) least (least + 187_200) (least_kept least) → least ≡ no_second
    → IsFirstPassing (is_held cells) least (least + 187_200) None
none_kept cells least first none = let test : (least == no_second) ≡ true = grind (arith, nat_tests) in rw test at first

-- ## Adding an instant

-- The range `from..from + 187_200` contains `at`. It also contains every second of the range `low..low + 187_200` that
-- is less than 187,200 seconds away from `at`. So if `at` is added to a ring that starts at `low`, the ring can start
-- at `from` instead, provided that all its elements are less than 187,200 seconds away from `at`.
record IsRoundWith (low at from : ℕ) : Type 0 where
  above : from ≤ at
  below : at < from + 187_200
  near : (t : ℕ) → low ≤ t → t < low + 187_200 → t ≤ at + 187_199 → at ≤ t + 187_199 → (from ≤ t) × (t < from + 187_200)

-- the cell of the second `at` is set, and all other cells are unchanged
pub record HasMore (old new : List ℕ) (at : ℕ) : Type 0 where
  pub here : is_bit_in new (at % 187_200) ≡ true
  pub others : (cell : ℕ) → cell ≢ at % 187_200 → is_bit_in new cell ≡ is_bit_in old cell

near_low : (i : ℤ) (t at : ℕ) → pos t ≡ i → IsNear i (pos at) → t ≤ at + 187_199
near_low i t at is near = let low = near.0 in omega (arith, ints)

near_high : (i : ℤ) (t at : ℕ) → pos t ≡ i → IsNear i (pos at) → at ≤ t + 187_199
near_high i t at is near = let high = near.1 in omega (arith, ints)

still_held : (old new : List ℕ) (at t : ℕ) → HasMore old new at → is_held old t ≡ true → is_held new t ≡ true
unfolding is_held
still_held old new at t more holds = grind arith

here_held : (old new : List ℕ) (at : ℕ) → HasMore old new at → is_held new at ≡ true
unfolding is_held
here_held old new at more = more.here

was_held : (old new : List ℕ) (at t : ℕ) → HasMore old new at → t % 187_200 ≢ at % 187_200 → is_held new t ≡ true → is_held old t ≡ true
unfolding is_held
was_held old new at t more other holds = sym (more.others (t % 187_200) other) ∙ holds

-- if `IsRoundWith` is true, and all old elements are less than 187,200 seconds away from `at` (`IsNear`), then each old
-- element is in the range `from..from + 187_200`
kept_in : (old : List ℕ) (low at from t : ℕ) → IsRoundWith low at from → ((i : ℤ) → Has (instants_in old low) i → IsNear i (pos at))
    → low ≤ t → t < low + 187_200 → is_held old t ≡ true → (from ≤ t) × (t < from + 187_200)
kept_in old low at from t round near above below holds =
    let there = near (pos t) (member old low t above below holds) in
    round.near t above below (near_low (pos t) t at refl there) (near_high (pos t) t at refl there)

old_second : (old : List ℕ) (low at from t : ℕ) → IsRoundWith low at from → ((i : ℤ) → Has (instants_in old low) i → IsNear i (pos at))
    → from ≤ t → t < from + 187_200 → is_held old t ≡ true → Has (instants_in old low) (pos t)
old_second old low at from t round near above below holds =
    let j = turned low t in
    let held = held_by old j.at t j.same ∙ holds in
    let kept = kept_in old low at from j.at round near j.above j.below held in
    let same = same_second from j.at t kept.0 kept.1 above below j.same in
    subst (λ (s : ℕ). Has (instants_in old low) (pos s)) same (member old low j.at j.above j.below held)

put_there : (old new : List ℕ) (low at from : ℕ) (i : ℤ) → HasMore old new at → IsRoundWith low at from → ((j : ℤ) → Has (instants_in old low) j → IsNear j (pos at))
    → IsIn new from i → (pos at ≡ i) ⊎ Has (instants_in old low) i
put_there old new low at from i more round near a =
    elim (cases_eq (a.at % 187_200) (at % 187_200)) [
      | inl same ↦ inl (subst (λ (s : ℕ). pos s ≡ i) (same_second from a.at at a.above a.below round.above round.below same) a.is)
      | inr other ↦ inr (subst (Has (instants_in old low)) a.is (old_second old low at from a.at round near a.above a.below (was_held old new at a.at more other a.holds)))
    ]

put_back : (old new : List ℕ) (low at from : ℕ) (i : ℤ) → HasMore old new at → IsRoundWith low at from → ((j : ℤ) → Has (instants_in old low) j → IsNear j (pos at))
    → (pos at ≡ i) ⊎ Has (instants_in old low) i → Has (instants_in new from) i
put_back old new low at from i more round near (inl e) = subst (Has (instants_in new from)) e (member new from at round.above round.below (here_held old new at more))
put_back old new low at from i more round near (inr m) =
    let a = (Has-instants old low i).0 m in
    let kept = kept_in old low at from a.at round near a.above a.below a.holds in
    subst (Has (instants_in new from)) a.is (member new from a.at kept.0 kept.1 (still_held old new at a.at more a.holds))

-- Suppose that `IsRoundWith` is true, and that all old elements are less than 187,200 seconds away from `at`
-- (`IsNear`). Once the cell of `at` is set, the list of elements is the old list with `at` inserted.
put_seen : (old new : List ℕ) (low at from : ℕ) → HasMore old new at → IsRoundWith low at from → ((i : ℤ) → Has (instants_in old low) i → IsNear i (pos at))
    → instants_in new from ≡ insert_key int_cmp (instants_in old low) (pos at)
put_seen old new low at from more round near =
    same_rising (instants_in new from) (insert_key int_cmp (instants_in old low) (pos at)) (rises-instants new from) (rises-insert_key (pos at) (instants_in old low) (rises-instants old low))
    (λ i. (
      λ m. (Has-insert_key (pos at) (instants_in old low) i).1 (put_there old new low at from i more round near ((Has-instants new from i).0 m)),
      λ m. put_back old new low at from i more round near ((Has-insert_key (pos at) (instants_in old low) i).0 m),
    ))

last_at : (at : ℕ) (i : ℤ) → pos at ≡ i → at ≤ 7_258_211_998 → i ≤ℤ pos 7_258_211_998
last_at at i is h = omega (arith, ints)

put_round : (old new : List ℕ) (low at from : ℕ) → HasMore old new at → IsRoundWith low at from → ((i : ℤ) → Has (instants_in old low) i → IsNear i (pos at))
    → at ≤ 7_258_211_998 → length new ≡ 2_925 → IsRound old low → IsRound new from
put_round old new low at from more round near high whole was =
    record {
      whole = whole;
      members = λ i m. elim (put_there old new low at from i more round near ((Has-instants new from i).0 m)) [ inl e ↦ last_at at i e high | inr n ↦ was.members i n ];
    }

-- Suppose that `at` is before `least`, or at most 187,199 seconds after it. Once `at` is added to a ring that starts at
-- `least`, the ring can start at the smaller of `least` and `at`, as `IsRoundWith` says.
with_least : (least at : ℕ) → (least ≤ at → at ≤ least + 187_199) → IsRoundWith least at (min least at)
with_least least at near = grind (arith, min)

put_reach : (old : List ℕ) (least at : ℕ) → IsRoundFrom old least → ((i : ℤ) → Has (instants_in old least) i → IsNear i (pos at)) → at ≤ 7_258_211_998
    → least ≤ at → at ≤ least + 187_199
put_reach old least at was near high early =
    let found = found_kept old least was.first (omega arith) in
    near_high (pos least) least at refl (near (pos least) (member old least least found.0 found.1 found.2))

put_held : (old new : List ℕ) (least at : ℕ) → HasMore old new at → IsRoundFrom old least → at ≤ 7_258_211_998 → is_held new (min least at) ≡ true
put_held old new least at more was high = grind (arith, min, here_held, found_kept, still_held)

pub put_from : (old new : List ℕ) (least at : ℕ) → HasMore old new at → IsRoundFrom old least → ((i : ℤ) → Has (instants_in old least) i → IsNear i (pos at))
    → at ≤ 7_258_211_998 → length new ≡ 2_925 → IsRoundFrom new (min least at)
put_from old new least at more was near high whole =
    let from = min least at in
    record {
      round = put_round old new least at from more (with_least least at (put_reach old least at was near high)) near high whole was.round;
      first = subst (IsFirstPassing (is_held new) from (from + 187_200)) (sym (kept_some from (omega arith)))
          (omega arith, omega arith, put_held old new least at more was high, λ t above below. absurd (omega arith));
    }

-- ## Removing an instant

-- the cell of the second `at` is clear, and all other cells are unchanged
pub record HasLess (old new : List ℕ) (at : ℕ) : Type 0 where
  pub here : is_bit_in new (at % 187_200) ≡ false
  pub others : (cell : ℕ) → cell ≢ at % 187_200 → is_bit_in new cell ≡ is_bit_in old cell

gone : (old new : List ℕ) (at t : ℕ) → HasLess old new at → t % 187_200 ≡ at % 187_200 → is_held new t ≡ false
unfolding is_held
gone old new at t less same = ap (is_bit_in new) same ∙ less.here

others_held : (old new : List ℕ) (at t : ℕ) → HasLess old new at → t % 187_200 ≢ at % 187_200 → is_held new t ≡ is_held old t
unfolding is_held
others_held old new at t less other = less.others (t % 187_200) other

-- Let `t` be one of the 187,200 seconds from the smallest element `at` on. If the cell of `t` is still set once `at`
-- has been removed, then `t` was an element before and is greater than `at`.
left_second : (old new : List ℕ) (low at t : ℕ) → IsFirstPassing (is_held old) low (low + 187_200) (Some at) → HasLess old new at
    → at ≤ t → t < at + 187_200 → is_held new t ≡ true → (at < t) × Has (instants_in old low) (pos t)
left_second old new low at t found less above below holds =
    elim (cases_eq (t % 187_200) (at % 187_200)) [
      | inl same ↦ absurd (let none = gone old new at t less same in cc)
      | inr other ↦
          let was = sym (others_held old new at t less other) ∙ holds in
          let j = turned low t in
          let held = held_by old j.at t j.same ∙ was in
          let late = not_before old low at j.at found j.above held in
          let same = same_second at j.at t late (omega arith) above below j.same in
          (later_one at t above other, subst (λ (s : ℕ). Has (instants_in old low) (pos s)) same (member old low j.at j.above j.below held))
    ]
  where
    later_one : (at t : ℕ) → at ≤ t → t % 187_200 ≢ at % 187_200 → at < t
    later_one at t above other = elim (cases_lt at t) [ inl h ↦ h | inr h ↦ absurd (other (let same : t ≡ at = omega arith in ap (λ (s : ℕ). s % 187_200) same)) ]

left_in : (old new : List ℕ) (low at : ℕ) (i : ℤ) → IsFirstPassing (is_held old) low (low + 187_200) (Some at) → HasLess old new at
    → IsIn new at i → (pos at <ℤ i) × Has (instants_in old low) i
left_in old new low at i found less a =
    let both = left_second old new low at a.at found less a.above a.below a.holds in
    (lt_of_pos at a.at i a.is both.0, subst (Has (instants_in old low)) a.is both.1)

still_in : (old new : List ℕ) (low at : ℕ) (i : ℤ) → IsFirstPassing (is_held old) low (low + 187_200) (Some at) → HasLess old new at
    → pos at <ℤ i → IsIn old low i → Has (instants_in new at) i
still_in old new low at i found less above a = grind (arith, lt_from_pos, same_second, member, others_held)

-- once the smallest element, `at`, has been removed, the list of elements is the old list without its first element
taken_seen : (old new : List ℕ) (low at : ℕ) → IsFirstPassing (is_held old) low (low + 187_200) (Some at) → HasLess old new at
    → instants_in new at ≡ drop 1 (instants_in old low)
taken_seen old new low at found less =
    let split = list-first (instants_in old low) (pos at) (first_found old low at found) in
    let rises = subst (IsStrictlySortedBy int_cmp) split (rises-instants old low) in
    same_rising (instants_in new at) (drop 1 (instants_in old low)) (rises-instants new at) (rises-drop (instants_in old low) 1 (rises-instants old low))
    (λ i.
    let after = later_members (pos at) (drop 1 (instants_in old low)) rises i in (
      λ m.
          let both = left_in old new low at i found less ((Has-instants new at i).0 m) in
          after.1 (both.0, subst (λ xs. Has xs i) split both.1),
      λ m.
          let both = after.0 m in
          still_in old new low at i found less both.0 ((Has-instants old low i).0 (subst (λ xs. Has xs i) (sym split) both.1)),
    ))

below_last : (at : ℕ) → pos at ≤ℤ pos 7_258_211_998 → at ≤ 7_258_211_998
below_last at h = omega (arith, ints)

pub found_inside : (cells : List ℕ) (low at : ℕ) → IsRound cells low → IsFirstPassing (is_held cells) low (low + 187_200) (Some at) → at ≤ 7_258_211_998
found_inside cells low at was found = below_last at (was.members (pos at) (member cells low at found.0 found.1 found.2))

taken_round : (old new : List ℕ) (low at : ℕ) → IsFirstPassing (is_held old) low (low + 187_200) (Some at) → HasLess old new at → length new ≡ 2_925 → IsRound old low → IsRound new at
taken_round old new low at found less whole was =
    record {
      whole = whole;
      members = λ i m. was.members i (left_in old new low at i found less ((Has-instants new at i).0 m)).1;
    }

-- if all elements of a ring that starts at `low` are in the range `from..from + 187_200`, the ring has the same list of
-- elements when it starts at `from`
seen_from : (cells : List ℕ) (low from : ℕ) → ((t : ℕ) → low ≤ t → t < low + 187_200 → is_held cells t ≡ true → (from ≤ t) × (t < from + 187_200))
    → instants_in cells from ≡ instants_in cells low
seen_from cells low from kept =
    same_rising (instants_in cells from) (instants_in cells low) (rises-instants cells from) (rises-instants cells low)
    (λ i. (
      λ m.
          let a = (Has-instants cells from i).0 m in
          let j = turned low a.at in
          let held = held_by cells j.at a.at j.same ∙ a.holds in
          let inside = kept j.at j.above j.below held in
          let same = same_second from j.at a.at inside.0 inside.1 a.above a.below j.same in
          subst (Has (instants_in cells low)) a.is (subst (λ (s : ℕ). Has (instants_in cells low) (pos s)) same (member cells low j.at j.above j.below held)),
      λ m.
          let a = (Has-instants cells low i).0 m in
          let inside = kept a.at a.above a.below a.holds in
          subst (Has (instants_in cells from)) a.is (member cells from a.at inside.0 inside.1 a.holds),
    ))

seen_on : (cells : List ℕ) (low : ℕ) (next : Option ℕ) → IsFirstPassing (is_held cells) low (low + 187_200) next
    → instants_in cells (unwrap_or next no_second) ≡ instants_in cells low
seen_on cells low next none = grind (arith, seen_from, not_before)

none_anywhere : (cells : List ℕ) (low t : ℕ) → IsFirstPassing (is_held cells) low (low + 187_200) None → is_held cells t ≡ false
none_anywhere cells low t none = let j = turned low t in sym (held_by cells j.at t j.same) ∙ none j.at j.above j.below

first_on : (cells : List ℕ) (low : ℕ) (next : Option ℕ) → IsRound cells low → IsFirstPassing (is_held cells) low (low + 187_200) next
    → let least = unwrap_or next no_second in IsFirstPassing (is_held cells) least (least + 187_200) (least_kept least)
first_on cells low None round none = λ t above below. none_anywhere cells low t none
first_on cells low (Some at) round found =
    let inside = found_inside cells low at round found in
    subst (IsFirstPassing (is_held cells) at (at + 187_200)) (sym (kept_some at (omega arith))) (omega arith, omega arith, found.2, λ t above below. absurd (omega arith))

-- once the smallest second has been removed, the ring starts at the next one, or is empty if there is none
pub taken_from : (old new : List ℕ) (least : ℕ) (next : Option ℕ) → IsFirstPassing (is_held old) least (least + 187_200) (Some least) → HasLess old new least → length new ≡ 2_925
    → IsRound old least → IsFirstPassing (is_held new) least (least + 187_200) next → IsRoundFrom new (unwrap_or next no_second)
taken_from old new least next found less whole was first =
    let round = taken_round old new least least found less whole was in
    record {
      round = record { whole = whole; members = λ i m. round.members i (subst (λ (xs : List ℤ). Has xs i) (seen_on new least next first) m) };
      first = first_on new least next round first;
    }

-- ## What the operations on a set of instants return

nothing_held : (cells : List ℕ) (n t : ℕ) → cells ≡ replicate n 0 → is_held cells t ≡ false
unfolding is_held is_bit_in
nothing_held cells n t empty = ap (λ (w : ℕ). is_bit w (t % 187_200 % 64)) (ap (λ (ws : List ℕ). get_or ws (t % 187_200 / 64) 0) empty ∙ get_or-zeros n (t % 187_200 / 64)) ∙ is_bit-zero 0 (t % 187_200 % 64) (bit_at-zero (t % 187_200 % 64))

pub nothing_seen : (cells : List ℕ) (n low : ℕ) → cells ≡ replicate n 0 → instants_in cells low ≡ []
nothing_seen cells n low empty = list-no_first (instants_in cells low) (none_found cells low (λ t above below. nothing_held cells n t empty))

pub empty_from : (cells : List ℕ) (n : ℕ) → n ≡ 2_925 → cells ≡ replicate n 0 → IsRoundFrom cells no_second
empty_from cells n count empty = grind (arith, length, length-replicate, nothing_seen, nothing_held)

pub second_is : (instant : ℤ) (second : ℕ) → IsInstant instant → second ≡ unsigned_abs instant → pos second ≡ instant
second_is instant second h e = grind (arith, ints)

pub second_inside : (instant : ℤ) (second : ℕ) → IsInstant instant → pos second ≡ instant → second ≤ 7_258_211_998
second_inside instant second h e = let high = h.1 in omega (arith, ints)

pub near_there : (old : List ℕ) (low at : ℕ) (instant : ℤ) (members : List ℤ) → instants_in old low ≡ members → pos at ≡ instant → ((i : ℤ) → Has members i → IsNear i instant)
    → (i : ℤ) → Has (instants_in old low) i → IsNear i (pos at)
near_there old low at instant members view is near i m = grind arith

pub put_answer : (old new : List ℕ) (least at : ℕ) (instant : ℤ) (members : List ℤ) → HasMore old new at → IsRoundFrom old least → instants_in old least ≡ members → pos at ≡ instant
    → at ≤ 7_258_211_998 → ((i : ℤ) → Has members i → IsNear i instant) → instants_in new (min least at) ≡ insert_key int_cmp members instant
put_answer old new least at instant members more was view is high near =
    let there = near_there old least at instant members view is near in
    put_seen old new least at (min least at) more (with_least least at (put_reach old least at was there high)) there ∙ (λ k. insert_key int_cmp (view k) (is k))

pub taken_answer : (old new : List ℕ) (least : ℕ) (next : Option ℕ) (members : List ℤ) → IsFirstPassing (is_held old) least (least + 187_200) (Some least) → HasLess old new least
    → IsFirstPassing (is_held new) least (least + 187_200) next → instants_in old least ≡ members → instants_in new (unwrap_or next no_second) ≡ drop 1 members
taken_answer old new least next members found less first view = seen_on new least next first ∙ (taken_seen old new least least found less ∙ ap (drop 1) view)

pub least_answer : (cells : List ℕ) (low at : ℕ) (members : List ℤ) → instants_in cells low ≡ members → IsRound cells low
    → IsFirstPassing (is_held cells) low (low + 187_200) (Some at) → Some (to_z w64 at) ≡ slice_get members 0
least_answer cells low at members view was found =
    let same : to_z w64 at ≡ pos at = to_z_pos w64 at (omega (arith, found_inside cells low at was found)) in
    ap Some same ∙ (sym (first_found cells low at found) ∙ ap (λ (xs : List ℤ). slice_get xs 0) view)

pub none_answer : (cells : List ℕ) (low : ℕ) (members : List ℤ) → instants_in cells low ≡ members → IsFirstPassing (is_held cells) low (low + 187_200) None → None ≡ slice_get members 0
none_answer cells low members view none = sym (none_found cells low none) ∙ ap (λ (xs : List ℤ). slice_get xs 0) view

pub rises_answer : (cells : List ℕ) (low : ℕ) (members : List ℤ) → instants_in cells low ≡ members → IsStrictlySortedBy int_cmp members
rises_answer cells low members view = subst (IsStrictlySortedBy int_cmp) view (rises-instants cells low)

pub near_answer : (cells : List ℕ) (low : ℕ) (members : List ℤ) → instants_in cells low ≡ members → (one other : ℤ) → Has members one → Has members other → IsNear one other
near_answer cells low members view one other m n = grind (arith, members_near)
