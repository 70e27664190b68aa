-- Which cells of the ring are set, and which instants it contains, after several cells have been set at once.
use Rattle.std.proofs.Common.{◌≡◌, ◌≢◌, ◌⊎◌, ◌↔◌, ◌<ℤ◌, ◌+ℤ◌, ◌≤ℤ◌, ℕ, ℤ, ◌+◌, ◌-◌, ◌*◌, ◌/◌, ◌%◌, ◌^◌, ◌<◌, ◌≤◌, ◌||◌, Bool, true, List, Option, None, Some, bit_or, length, get_or, set, pos, IsSomeAnd, inl, inr, refl, sym, ap, ◌∙◌, subst, arith, get_or-set_same, get_or-set_other, slice_get, false}
use Rattle.std.proofs.Math.ListN.{length-set}
use Rattle.std.proofs.lemmas.Bool.{cases_eq, cases_lt, or_cases, or_left, or_right}
use Rattle.std.proofs.lemmas.Int.{ints}
use Rattle.std.specs.Ordering.{int_cmp}
use Rattle.std.specs.List.Sorted.{IsStrictlySortedBy}
use Rattle.cal_zone.specs.rules.Instant.{IsInstant}
use Rattle.cal_rising.specs.rules.Elements.{Has}
use Rattle.cal_elapse.specs.computed.Bits.{is_bit, is_bit_in}
use Rattle.cal_elapse.specs.computed.Ring.{IsInMinutes, IsNear, IsOneOf, IsRoundFrom, cells_behind, instants_in, is_held, no_second}
use Rattle.cal_elapse.specs.rules.Search.{IsFirstPassing}
use Rattle.cal_elapse.proofs.BitLemmas.{is_bit-above, is_bit-none, is_bit-or, is_bit-shifted, is_bit-up, is_bit-up_none}
use Rattle.cal_elapse.proofs.CellLemmas.{in_word}
use Rattle.cal_elapse.proofs.RingLemmas.{Has-instants, IsIn, first_found, found_kept, kept_some, member, none_found, none_kept, same_second}
use Rattle.cal_bytes.proofs.General.{below_end, lt_from_pos}

or_false : (a b : Bool) → b ≡ false → a ≡ (a || b)
or_false a b h = grind arith

-- ## Which cells are set after `set_cells`

-- after the bits of `more` are set in a word, a cell of that word is set if and only if it was set before or its bit in
-- `more` is set
filled_here : (cells : List ℕ) (word more i : ℕ) → word < length cells → i / 64 ≡ word
    → is_bit_in (set cells word (bit_or (get_or cells word 0) more)) i ≡ (is_bit_in cells i || is_bit more (i % 64))
filled_here cells word more i inside same =
    in_word (set cells word (bit_or (get_or cells word 0) more)) i word same
    ∙ (ap (λ (w : ℕ). is_bit w (i % 64)) (get_or-set_same cells word (bit_or (get_or cells word 0) more) 0 inside)
    ∙ (is_bit-or (get_or cells word 0) more (i % 64) ∙ ap (λ (b : Bool). b || is_bit more (i % 64)) (sym (in_word cells i word same))))

filled_else : (cells : List ℕ) (word value i : ℕ) → i / 64 ≢ word → is_bit_in (set cells word value) i ≡ is_bit_in cells i
filled_else cells word value i other =
    in_word (set cells word value) i (i / 64) refl
    ∙ (ap (λ (w : ℕ). is_bit w (i % 64)) (get_or-set_other cells word (i / 64) value 0 other) ∙ sym (in_word cells i (i / 64) refl))

-- `set_cells` shifts `bits` to the left for the word of the first cell (`up_is`), and to the right for the next word
-- (`down_is`). A bit of the shifted `bits` is set if and only if the bit of the original `bits` that stands for the
-- same cell is set.
up_is : (bits cell i : ℕ) → bits < 2 ^ 64 → cell < 187_200 → i < 187_200 → i / 64 ≡ cell / 64
    → is_bit (bits * 2 ^ (cell % 64) % 2 ^ 64) (i % 64) ≡ is_bit bits (cells_behind cell i)
up_is bits cell i fits inside there same =
    elim (cases_lt (i % 64) (cell % 64)) [
      | inl early ↦ is_bit-up_none bits (cell % 64) (i % 64) (omega arith) early ∙ sym (is_bit-above bits 64 (cells_behind cell i) fits (omega arith))
      | inr late ↦ is_bit-up bits (cell % 64) (i % 64) (omega arith) late ∙ ap (is_bit bits) (omega arith)
    ]

down_is : (bits cell i next : ℕ) → cell < 187_200 → i < 187_200 → (next ≡ cell / 64 + 1) ⊎ ((next ≡ 0) × (cell / 64 ≡ 2_924)) → i / 64 ≡ next
    → is_bit (bits / 2 ^ 1 / 2 ^ (63 - cell % 64)) (i % 64) ≡ is_bit bits (cells_behind cell i)
down_is bits cell i next inside there turn same =
    is_bit-shifted (bits / 2 ^ 1) (63 - cell % 64) (i % 64)
    ∙ (is_bit-shifted bits 1 (63 - cell % 64 + i % 64)
    ∙ ap (is_bit bits) (elim turn [ inl on ↦ omega arith | inr round ↦ omega (arith, round.0, round.1) ]))

far_behind : (cell i next : ℕ) → cell < 187_200 → i < 187_200 → (next ≡ cell / 64 + 1) ⊎ ((next ≡ 0) × (cell / 64 ≡ 2_924)) → next < 2_925
    → i / 64 ≢ cell / 64 → i / 64 ≢ next → 64 ≤ cells_behind cell i
far_behind cell i next inside there turn next_in other apart = elim turn [ inl on ↦ omega arith | inr round ↦ omega (arith, round.0, round.1) ]

-- after `set_cells` has changed the word of the first cell and the next word, a cell is set if and only if it was set
-- before or the bit of `bits` that stands for this cell is set
pub filled : (cells : List ℕ) (cell bits next i : ℕ) → length cells ≡ 2_925 → cell < 187_200 → bits < 2 ^ 64 → (next ≡ cell / 64 + 1) ⊎ ((next ≡ 0) × (cell / 64 ≡ 2_924))
    → next < 2_925 → i < 187_200
    → let one = set cells (cell / 64) (bit_or (get_or cells (cell / 64) 0) (bits * 2 ^ (cell % 64) % 2 ^ 64)) in
    is_bit_in (set one next (bit_or (get_or one next 0) (bits / 2 ^ 1 / 2 ^ (63 - cell % 64)))) i ≡ (is_bit_in cells i || is_bit bits (cells_behind cell i))
filled cells cell bits next i long inside fits turn next_in there =
    let up = bits * 2 ^ (cell % 64) % 2 ^ 64 in
    let down = bits / 2 ^ 1 / 2 ^ (63 - cell % 64) in
    let one = set cells (cell / 64) (bit_or (get_or cells (cell / 64) 0) up) in
    let same_length : length one ≡ length cells = simp length-set in
    elim (cases_eq (i / 64) next) [
      | inl same ↦
          let apart : i / 64 ≢ cell / 64 = λ e. elim turn [ inl on ↦ omega arith | inr round ↦ omega (arith, round.0, round.1) ] in
          filled_here one next down i (omega arith) same
          ∙ (ap (λ (b : Bool). b || is_bit down (i % 64)) (filled_else cells (cell / 64) (bit_or (get_or cells (cell / 64) 0) up) i apart)
          ∙ ap (λ (b : Bool). is_bit_in cells i || b) (down_is bits cell i next inside there turn same))
      | inr other ↦
          filled_else one next (bit_or (get_or one next 0) down) i other
          ∙ elim (cases_eq (i / 64) (cell / 64)) [
            | inl here ↦
                filled_here cells (cell / 64) up i (omega arith) here ∙ ap (λ (b : Bool). is_bit_in cells i || b) (up_is bits cell i fits inside there here)
            | inr apart ↦
                filled_else cells (cell / 64) (bit_or (get_or cells (cell / 64) 0) up) i apart
                ∙ or_false (is_bit_in cells i) (is_bit bits (cells_behind cell i)) (is_bit-above bits 64 (cells_behind cell i) fits (far_behind cell i next inside there turn next_in apart other))
          ]
    ]

-- ## Which instants the ring contains after the cells of new instants have been set

-- a cell is set if and only if it was set before or is the cell of one of the new instants
pub record AreFilled (old new : List ℕ) (start bits : ℕ) : Type 0 where
  pub held : (i : ℕ) → i < 187_200 → is_bit_in new i ≡ (is_bit_in old i || is_bit bits (cells_behind (start % 187_200) i))

held_all : (old new : List ℕ) (start bits t : ℕ) → AreFilled old new start bits → is_held new t ≡ (is_held old t || is_bit bits (cells_behind (start % 187_200) (t % 187_200)))
unfolding is_held
held_all old new start bits t all = all.held (t % 187_200) (omega arith)

still_held : (old new : List ℕ) (start bits t : ℕ) → AreFilled old new start bits → is_held old t ≡ true → is_held new t ≡ true
still_held old new start bits t all holds = held_all old new start bits t all ∙ or_left _ _ holds

new_held : (old new : List ℕ) (start bits bit : ℕ) → AreFilled old new start bits → is_bit bits bit ≡ true → bit < 64 → is_held new (start + bit) ≡ true
new_held old new start bits bit all set small =
    let behind : cells_behind (start % 187_200) ((start + bit) % 187_200) ≡ bit = omega arith in
    held_all old new start bits (start + bit) all ∙ or_right _ _ (ap (is_bit bits) behind ∙ set)

-- all new instants are after `least`, are among the 187,200 seconds from `least` on, and aren't after 7,258,211,998,
-- the last of all instants
pub record IsRoundOfAll (least start bits : ℕ) : Type 0 where
  pub behind : least < start
  pub inside : (bit : ℕ) → is_bit bits bit ≡ true → start + bit < least + 187_200
  pub early : (bit : ℕ) → is_bit bits bit ≡ true → start + bit ≤ 7_258_211_998

one_at : (start bit : ℕ) (i : ℤ) → pos start +ℤ pos bit ≡ i → pos (start + bit) ≡ i
one_at start bit i is = omega (arith, ints)

one_there : (start t bits bit : ℕ) (i : ℤ) → pos t ≡ i → t ≡ start + bit → is_bit bits bit ≡ true → IsOneOf (pos start) bits i
one_there start t bits bit i is at set = record { bit = bit; set = set; is = omega (arith, ints) }

small_bit : (bits bit : ℕ) → bits < 2 ^ 64 → is_bit bits bit ≡ true → bit < 64
small_bit bits bit fits set = below_end (is_bit bits) 64 bit (λ j high. is_bit-above bits 64 j fits high) set

filled_there : (old new : List ℕ) (least start bits : ℕ) (i : ℤ) → AreFilled old new start bits → IsRoundOfAll least start bits → bits < 2 ^ 64 → IsIn new least i
    → Has (instants_in old least) i ⊎ IsOneOf (pos start) bits i
filled_there old new least start bits i all round fits a =
    let above = a.above in
    let below = a.below in
    elim (or_cases _ _ (sym (held_all old new start bits a.at all) ∙ a.holds)) [
      | inl was ↦ inl (subst (Has (instants_in old least)) a.is (member old least a.at above below was))
      | inr set ↦
          let bit : ℕ = cells_behind (start % 187_200) (a.at % 187_200) in
          let small = small_bit bits bit fits set in
          let inside = round.inside bit set in
          inr (one_there start a.at bits bit i a.is (same_second least a.at (start + bit) above below (omega arith) inside (omega arith)) set)
    ]

filled_back : (old new : List ℕ) (least start bits : ℕ) (i : ℤ) → AreFilled old new start bits → IsRoundOfAll least start bits → bits < 2 ^ 64
    → Has (instants_in old least) i ⊎ IsOneOf (pos start) bits i → Has (instants_in new least) i
filled_back old new least start bits i all round fits (inl m) =
    let a = (Has-instants old least i).0 m in
    subst (Has (instants_in new least)) a.is (member new least a.at a.above a.below (still_held old new start bits a.at all a.holds))
filled_back old new least start bits i all round fits (inr one) =
    let held = new_held old new start bits one.bit all one.set (small_bit bits one.bit fits one.set) in
    subst (Has (instants_in new least)) (one_at start one.bit i one.is) (member new least (start + one.bit) (omega arith) (round.inside one.bit one.set) held)

-- after all new instants are added, the ring contains exactly the old elements and the new instants
pub filled_seen : (old new : List ℕ) (least start bits : ℕ) (i : ℤ) → AreFilled old new start bits → IsRoundOfAll least start bits → bits < 2 ^ 64
    → Has (instants_in new least) i ↔ (Has (instants_in old least) i ⊎ IsOneOf (pos start) bits i)
filled_seen old new least start bits i all round fits =
    (λ m. filled_there old new least start bits i all round fits ((Has-instants new least i).0 m), λ o. filled_back old new least start bits i all round fits o)

one_early : (start bit : ℕ) (i : ℤ) → pos start +ℤ pos bit ≡ i → start + bit ≤ 7_258_211_998 → i ≤ℤ pos 7_258_211_998
one_early start bit i is early = omega (arith, ints)

-- ## What `put_bits` requires and ensures about the set of instants

-- the ring isn't empty, and `least`, its smallest second, is before `start`
pub record IsBegun (cells : List ℕ) (least : ℕ) (start : ℤ) : Type 0 where
  pub some : least ≢ no_second
  pub found : IsFirstPassing (is_held cells) least (least + 187_200) (Some least)
  pub below : pos least <ℤ start

begun_by : (o : Option ℤ) (least : ℕ) (start : ℤ) → o ≡ Some (pos least) → IsSomeAnd o (λ x. x <ℤ start) → pos least <ℤ start
begun_by o least start is begun = subst (λ (p : Option ℤ). IsSomeAnd p (λ x. x <ℤ start)) is begun

none_begun : (o : Option ℤ) (start : ℤ) → o ≡ None → IsSomeAnd o (λ x. x <ℤ start) → ⊥
none_begun o start is begun = subst (λ (p : Option ℤ). IsSomeAnd p (λ x. x <ℤ start)) is begun

pub begun_least : (cells : List ℕ) (least : ℕ) (start : ℤ) (members : List ℤ) → instants_in cells least ≡ members → IsRoundFrom cells least
    → IsSomeAnd (slice_get members 0) (λ x. x <ℤ start) → IsBegun cells least start
begun_least cells least start members view was begun =
    elim (cases_eq least no_second) [
      | inl same ↦ absurd (none_begun (slice_get members 0) start (ap (λ (xs : List ℤ). slice_get xs 0) (sym view) ∙ none_found cells least (none_kept cells least was.first same)) begun)
      | inr some ↦
          let found = found_kept cells least was.first some in
          record { some = some; found = found; below = begun_by (slice_get members 0) least start (ap (λ (xs : List ℤ). slice_get xs 0) (sym view) ∙ first_found cells least least found) begun }
    ]

within_round : (least second bit : ℕ) (i : ℤ) → IsNear (pos least) i → (pos second +ℤ pos bit) ≡ i → second + bit < least + 187_200
within_round least second bit i near is = let high = near.1 in omega (arith, ints)

early_enough : (second bit : ℕ) (i : ℤ) → IsInstant i → (pos second +ℤ pos bit) ≡ i → second + bit ≤ 7_258_211_998
early_enough second bit i instant is = let high = instant.1 in omega (arith, ints)

one_of : (start : ℤ) (second bits bit : ℕ) → pos second ≡ start → is_bit bits bit ≡ true → IsOneOf start bits (start +ℤ pos bit)
one_of start second bits bit is set = record { bit = bit; set = set; is = refl }

pub round_of_all : (cells : List ℕ) (least second bits : ℕ) (start : ℤ) (members : List ℤ) → instants_in cells least ≡ members → IsBegun cells least start → pos second ≡ start
    → ((i : ℤ) → IsOneOf start bits i → IsInstant i) → ((one i : ℤ) → Has members one → IsOneOf start bits i → IsNear one i) → IsRoundOfAll least second bits
round_of_all cells least second bits start members view begun is instants near =
    let found = begun.found in
    let there : Has members (pos least) = subst (λ (xs : List ℤ). Has xs (pos least)) view (member cells least least found.0 found.1 found.2) in
    record {
      behind = lt_from_pos least second start is begun.below;
      inside = λ bit set. within_round least second bit (start +ℤ pos bit) (near (pos least) (start +ℤ pos bit) there (one_of start second bits bit is set)) (ap (λ (z : ℤ). z +ℤ pos bit) is);
      early = λ bit set. early_enough second bit (start +ℤ pos bit) (instants (start +ℤ pos bit) (one_of start second bits bit is set)) (ap (λ (z : ℤ). z +ℤ pos bit) is);
    }

pub filled_from : (old new : List ℕ) (least start bits : ℕ) (at : ℤ) → AreFilled old new start bits → IsRoundOfAll least start bits → bits < 2 ^ 64 → length new ≡ 2_925
    → IsBegun old least at → IsRoundFrom old least → IsRoundFrom new least
filled_from old new least start bits at all round fits whole begun was =
    let first : IsFirstPassing (is_held new) least (least + 187_200) (Some least)
    = (omega arith, omega arith, still_held old new start bits least all begun.found.2, λ t above below. absurd (omega arith)) in
    record {
      round = record {
        whole = whole;
        members = λ i m. elim ((filled_seen old new least start bits i all round fits).0 m) [ inl n ↦ was.round.members i n | inr one ↦ one_early start one.bit i one.is (round.early one.bit one.set) ];
      };
      first = subst (IsFirstPassing (is_held new) least (least + 187_200)) (sym (kept_some least begun.some)) first;
    }

-- adding instants that are after the smallest element of a ring (`IsBegun`) doesn't change the smallest element
pub filled_first : (old new : List ℕ) (least start bits : ℕ) (at : ℤ) (members : List ℤ) → AreFilled old new start bits → IsBegun old least at → instants_in old least ≡ members
    → slice_get (instants_in new least) 0 ≡ slice_get members 0
filled_first old new least start bits at members all begun view =
    first_found new least least (omega arith, omega arith, still_held old new start bits least all begun.found.2, λ t above below. absurd (omega arith))
    ∙ (sym (first_found old least least begun.found) ∙ ap (λ (xs : List ℤ). slice_get xs 0) view)

pub filled_answer : (old new : List ℕ) (least second bits : ℕ) (start : ℤ) (members : List ℤ) → AreFilled old new second bits → IsRoundOfAll least second bits → bits < 2 ^ 64
    → instants_in old least ≡ members → pos second ≡ start → (i : ℤ) → Has (instants_in new least) i ↔ (Has members i ⊎ IsOneOf start bits i)
filled_answer old new least second bits start members all round fits view is i =
    let seen = filled_seen old new least second bits i all round fits in (
      λ m. elim (seen.0 m) [ inl n ↦ inl (subst (λ (xs : List ℤ). Has xs i) view n) | inr one ↦ inr (subst (λ (z : ℤ). IsOneOf z bits i) is one) ],
      λ o. seen.1 (elim o [ inl n ↦ inl (subst (λ (xs : List ℤ). Has xs i) (sym view) n) | inr one ↦ inr (subst (λ (z : ℤ). IsOneOf z bits i) (sym is) one) ]),
    )

-- ## Adding the instants of several minutes, one minute after another

-- `i` is one of the instants to add (`IsInMinutes`), and its minute has been added: the bit of this minute isn't set in
-- `left`
pub record IsPut (start : ℤ) (minutes left seconds : ℕ) (i : ℤ) : Type 0 where
  pub one : IsInMinutes start minutes seconds i
  pub taken : is_bit left one.minute ≡ false

-- The set bits of `left` stand for the minutes that have yet to be added, and are set in `minutes` too. `now` consists
-- of `old` and the instants of the minutes that have been added. The smallest element of `now` is the smallest element
-- of `old`.
pub record ArePut (old now : List ℤ) (start : ℤ) (minutes left seconds : ℕ) : Type 0 where
  pub kept : (a : ℕ) → is_bit left a ≡ true → is_bit minutes a ≡ true
  pub first : slice_get now 0 ≡ slice_get old 0
  pub rises : IsStrictlySortedBy int_cmp now
  pub members : (i : ℤ) → Has now i ↔ (Has old i ⊎ IsPut start minutes left seconds i)

pub put_begun : (old : List ℤ) (start : ℤ) (minutes seconds : ℕ) → IsStrictlySortedBy int_cmp old → ArePut old old start minutes minutes seconds
put_begun old start minutes seconds rises = record {
  kept = λ a set. set;
  first = refl;
  rises = rises;
  members = λ i. (λ m. inl m, λ o. elim o [ inl m ↦ m | inr p ↦ absurd (let set = p.one.minute_set in let no = p.taken in cc) ]);
}

pub put_ended : (old now : List ℤ) (start : ℤ) (minutes left seconds : ℕ) → ArePut old now start minutes left seconds → left ≡ 0
    → (i : ℤ) → Has now i ↔ (Has old i ⊎ IsInMinutes start minutes seconds i)
put_ended old now start minutes left seconds h none i = (
  λ m. elim ((h.members i).0 m) [ inl was ↦ inl was | inr p ↦ inr p.one ],
  λ o. (h.members i).1 (elim o [ inl was ↦ inl was | inr one ↦ inr (record { one = one; taken = rw none (is_bit-none one.minute) }) ]),
)

minute_sum : (start at : ℤ) (a s : ℕ) (i : ℤ) → at ≡ (start +ℤ pos (a * 60)) → (at +ℤ pos s) ≡ i → (start +ℤ pos (a * 60 + s)) ≡ i
minute_sum start at a s i at_is is = omega (arith, ints)

sum_minute : (start at : ℤ) (a b s : ℕ) (i : ℤ) → at ≡ (start +ℤ pos (a * 60)) → b ≡ a → (start +ℤ pos (b * 60 + s)) ≡ i → (at +ℤ pos s) ≡ i
sum_minute start at a b s i at_is same is = omega (arith, ints)

near_minutes : (start : ℤ) (x y : ℕ) (i j : ℤ) → x < 3_904 → y < 3_904 → (start +ℤ pos x) ≡ i → (start +ℤ pos y) ≡ j → IsNear i j
near_minutes start x y i j low high is_i is_j = (omega (arith, ints), omega (arith, ints))

-- In this module, the instants of the minute of bit `a` are added next. The instant at which this minute begins is
-- `at`.
module _ (old now : List ℤ) (start at : ℤ) (minutes left seconds a : ℕ) (h : ArePut old now start minutes left seconds) (set : is_bit left a ≡ true)
    (at_is : at ≡ (start +ℤ pos (a * 60)))
  where
    pub one_in : (i : ℤ) → IsOneOf at seconds i → IsInMinutes start minutes seconds i
    one_in i one = record { minute = a; second = one.bit; minute_set = h.kept a set; second_set = one.set; is = minute_sum start at a one.bit i at_is one.is }

    pub next_near : minutes < 2 ^ 64 → seconds < 2 ^ 64 → ((member i : ℤ) → Has old member → IsInMinutes start minutes seconds i → IsNear member i)
        → (member i : ℤ) → Has now member → IsOneOf at seconds i → IsNear member i
    next_near fits small near member i m one =
        let new = one_in i one in
        elim ((h.members member).0 m) [
          | inl was ↦ near member i was new
          | inr p ↦
              near_minutes start (p.one.minute * 60 + p.one.second) (new.minute * 60 + new.second) member i
              (omega (arith, small_bit minutes p.one.minute fits p.one.minute_set, small_bit seconds p.one.second small p.one.second_set))
              (omega (arith, small_bit minutes new.minute fits new.minute_set, small_bit seconds new.second small new.second_set)) p.one.is new.is
        ]

    pub put_next : (new : List ℤ) (more : ℕ) → is_bit more a ≡ false → ((x : ℕ) → x ≢ a → is_bit more x ≡ is_bit left x) → slice_get new 0 ≡ slice_get now 0
        → IsStrictlySortedBy int_cmp new → ((i : ℤ) → Has new i ↔ (Has now i ⊎ IsOneOf at seconds i)) → ArePut old new start minutes more seconds
    unfolding one_in
    put_next new more cleared others first rises members = record {
      kept = λ x one. elim (cases_eq x a) [
        | inl same ↦ absurd (let no : is_bit more x ≡ false = ap (is_bit more) same ∙ cleared in cc)
        | inr other ↦ h.kept x (sym (others x other) ∙ one)
      ];
      first = first ∙ h.first;
      rises = rises;
      members = λ i. (
        λ m. elim ((members i).0 m) [
          | inl was ↦ elim ((h.members i).0 was) [ inl o ↦ inl o | inr p ↦ inr (record { one = p.one; taken = still_taken p.one.minute p.taken }) ]
          | inr one ↦ inr (record { one = one_in i one; taken = cleared })
        ],
        λ o. (members i).1 (elim o [
          | inl was ↦ inl ((h.members i).1 (inl was))
          | inr p ↦ elim (cases_eq p.one.minute a) [
            | inl same ↦ inr (record { bit = p.one.second; set = p.one.second_set; is = sum_minute start at a p.one.minute p.one.second i at_is same p.one.is })
            | inr other ↦ inl ((h.members i).1 (inr (record { one = p.one; taken = sym (others p.one.minute other) ∙ p.taken })))
          ]
        ]),
      );
    }
      where
        still_taken : (x : ℕ) → is_bit left x ≡ false → is_bit more x ≡ false
        still_taken x clear = elim (cases_eq x a) [ inl same ↦ ap (is_bit more) same ∙ cleared | inr other ↦ others x other ∙ clear ]
