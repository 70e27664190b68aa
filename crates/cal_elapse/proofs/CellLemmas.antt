-- The cells of the ring, in words of 64 bits: finding the first set cell, and the effect of changing a cell.
use Rattle.std.proofs.Common.{◌≡◌, ◌≢◌, ℕ, ◌+◌, ◌-◌, ◌*◌, ◌/◌, ◌%◌, ◌<◌, ◌≤◌, not, cond, Bool, true, false, List, Option, None, Some, length, get_or, drop, set, ltb, inl, inr, refl, sym, ap, ◌∙◌, subst, arith, get_or-set_same, get_or-set_other}
use Rattle.std.specs.List.{position, position_or_len}
use Rattle.std.proofs.lemmas.Bool.{cases_eq, cases_lt, eq-eqb, ne_eqb, not-true, not-false}
use Rattle.std.proofs.lemmas.List.{get_or-drop}
use Rattle.std.proofs.lemmas.List.Sums.{prefix_len_passes, prefix_len_stops}
use Rattle.cal_elapse.specs.computed.Bits.{is_bit, is_bit_in, is_set}
use Rattle.cal_elapse.specs.computed.Ring.{is_held}
use Rattle.cal_elapse.specs.rules.Search.{IsFirstPassing}
use Rattle.cal_elapse.proofs.BitLemmas.{is_bit-none}

-- ## The first word that isn't 0

zero_of : (x : ℕ) → is_set x ≡ false → x ≡ 0
zero_of x h = elim (cases_eq x 0) [ inl same ↦ same | inr other ↦ absurd (let no = ne_eqb x 0 other in cc) ]

set_of : (x : ℕ) → is_set x ≡ true → 0 < x
set_of x h = elim (cases_eq x 0) [ inl same ↦ absurd (let no = eq-eqb x 0 same in cc) | inr other ↦ omega arith ]

-- `k` is the index of the first word that isn't 0
pub record IsFirstSet (xs : List ℕ) (k : ℕ) : Type 0 where
  pub inside : k < length xs
  pub some : 0 < get_or xs k 0
  pub zeros : (j : ℕ) → j < k → get_or xs j 0 ≡ 0

word_before : (xs : List ℕ) (j : ℕ) → j < position_or_len is_set xs → get_or xs j 0 ≡ 0
word_before xs j h = zero_of (get_or xs j 0) (not-true _ (prefix_len_passes (λ x. not (is_set x)) xs j 0 h))

word_there : (xs : List ℕ) → position_or_len is_set xs < length xs → 0 < get_or xs (position_or_len is_set xs) 0
word_there xs h = set_of (get_or xs (position_or_len is_set xs) 0) (not-false _ (prefix_len_stops (λ x. not (is_set x)) xs 0 h))

by_index : (n k len : ℕ) → ◌≡◌ {A = Option ℕ} (cond (ltb n len) (Some n) None) (Some k) → (n ≡ k) × (n < len)
by_index n k len h = grind (arith, ltb)

by_none : (n len : ℕ) → ◌≡◌ {A = Option ℕ} (cond (ltb n len) (Some n) None) None → len ≤ n
by_none n len h = grind (arith, ltb)

pub position-first : (xs : List ℕ) (k : ℕ) → position is_set xs ≡ Some k → IsFirstSet xs k
position-first xs k h = grind (arith, by_index, length, get_or, word_there, word_before)

pub position-all : (xs : List ℕ) → position is_set xs ≡ None → (k : ℕ) → k < length xs → get_or xs k 0 ≡ 0
position-all xs h k lt = let long = by_none (position_or_len is_set xs) (length xs) h in word_before xs k (omega arith)

-- ## The first set cell

pub in_word : (cells : List ℕ) (t word : ℕ) → t / 64 ≡ word → is_bit_in cells t ≡ is_bit (get_or cells word 0) (t % 64)
unfolding is_bit_in
in_word cells t word same = ap (λ (w : ℕ). is_bit (get_or cells w 0) (t % 64)) same

in_zero : (cells : List ℕ) (t word : ℕ) → t / 64 ≡ word → get_or cells word 0 ≡ 0 → is_bit_in cells t ≡ false
in_zero cells t word same zero = in_word cells t word same ∙ (ap (λ (w : ℕ). is_bit w (t % 64)) zero ∙ is_bit-none (t % 64))

-- if the word of the cell `from` has set bits at or after the bit of `from`, the lowest of them is the bit of the first
-- set cell at or after `from`
pub found_here : (cells : List ℕ) (from bit cell : ℕ) → from < 187_200 → IsFirstPassing (is_bit (get_or cells (from / 64) 0)) (from % 64) 64 (Some bit)
    → cell ≡ from / 64 * 64 + bit → IsFirstPassing (is_bit_in cells) from 187_200 (Some cell)
found_here cells from bit cell inside found is =
    let place : cell % 64 ≡ bit = omega arith in (
      omega arith,
      omega arith,
      in_word cells cell (from / 64) (omega arith) ∙ (ap (is_bit (get_or cells (from / 64) 0)) place ∙ found.2),
      λ t above below. in_word cells t (from / 64) (omega arith) ∙ found.3 (t % 64) (omega arith) (omega arith),
    )

pub none_here : (cells : List ℕ) (from t : ℕ) → IsFirstPassing (is_bit (get_or cells (from / 64) 0)) (from % 64) 64 None → from ≤ t → t / 64 ≡ from / 64 → is_bit_in cells t ≡ false
none_here cells from t none above same = in_word cells t (from / 64) same ∙ none (t % 64) (omega arith) (omega arith)

-- if the word of the cell `from` has no set bit at or after the bit of `from`, and the next `later` words are 0, then
-- none of these words has a set cell at or after `from`
none_before : (cells : List ℕ) (from later t : ℕ) → IsFirstPassing (is_bit (get_or cells (from / 64) 0)) (from % 64) 64 None
    → ((j : ℕ) → j < later → get_or (drop (from / 64 + 1) cells) j 0 ≡ 0) → from ≤ t → t / 64 < from / 64 + 1 + later → is_bit_in cells t ≡ false
none_before cells from later t none zeros above below =
    elim (cases_eq (t / 64) (from / 64)) [
      | inl same ↦ none_here cells from t none above same
      | inr other ↦
          let j = t / 64 - (from / 64 + 1) in
          let at : from / 64 + 1 + j ≡ t / 64 = omega arith in
          in_zero cells t (t / 64) refl (subst (λ (k : ℕ). get_or cells k 0 ≡ 0) at (sym (get_or-drop (from / 64 + 1) cells j 0) ∙ zeros j (omega arith)))
    ]

-- if the word of the cell `from` has no set bit at or after the bit of `from`, the first set cell after `from` is in
-- the first later word that isn't 0, and its bit is the lowest set bit of that word
pub found_later : (cells : List ℕ) (from later bit cell : ℕ) → length cells ≡ 2_925 → from < 187_200
    → IsFirstPassing (is_bit (get_or cells (from / 64) 0)) (from % 64) 64 None → IsFirstSet (drop (from / 64 + 1) cells) later → from / 64 + 1 + later < 2_925
    → IsFirstPassing (is_bit (get_or cells (from / 64 + 1 + later) 0)) 0 64 (Some bit) → cell ≡ (from / 64 + 1 + later) * 64 + bit → IsFirstPassing (is_bit_in cells) from 187_200 (Some cell)
found_later cells from later bit cell long inside none first there found is =
    let place : cell % 64 ≡ bit = omega arith in
    let word : cell / 64 ≡ from / 64 + 1 + later = omega arith in (
      omega arith,
      omega arith,
      in_word cells cell (from / 64 + 1 + later) word ∙ (ap (is_bit (get_or cells (from / 64 + 1 + later) 0)) place ∙ found.2),
      λ t above below.
          elim (cases_lt (t / 64) (from / 64 + 1 + later)) [
            | inl early ↦ none_before cells from later t none first.zeros above early
            | inr late ↦ in_word cells t (from / 64 + 1 + later) (omega arith) ∙ found.3 (t % 64) (omega arith) (omega arith)
          ],
    )

-- if the word of the cell `from` has no set bit at or after the bit of `from`, and all later words are 0, then no cell
-- at or after `from` is set
pub no_word_set : (cells : List ℕ) (from : ℕ) → length cells ≡ 2_925 → from < 187_200 → length (drop (from / 64 + 1) cells) ≡ 2_925 - (from / 64 + 1)
    → IsFirstPassing (is_bit (get_or cells (from / 64) 0)) (from % 64) 64 None → position is_set (drop (from / 64 + 1) cells) ≡ None
    → IsFirstPassing (is_bit_in cells) from 187_200 None
no_word_set cells from long inside after none all = λ t above below.
    none_before cells from (2_925 - (from / 64 + 1)) t none (λ j lt. position-all (drop (from / 64 + 1) cells) all j (omega arith)) above (omega arith)

-- ## From cells to seconds: each cell stands for one of the 187,200 seconds from `low` on

held_at : (cells : List ℕ) (t cell : ℕ) → t % 187_200 ≡ cell → is_held cells t ≡ is_bit_in cells cell
unfolding is_held
held_at cells t cell same = ap (is_bit_in cells) same

pub held_first : (cells : List ℕ) (low found : ℕ) → IsFirstPassing (is_bit_in cells) (low % 187_200) 187_200 (Some found)
    → IsFirstPassing (is_held cells) low (low + 187_200) (Some (low - low % 187_200 + found))
held_first cells low found first = grind (arith, held_at)

-- if no cell from the cell of `low` to the end of the ring is set, the search continues at the start of the ring: the
-- first set cell there belongs to the first second at or after `low` that has a set cell
pub held_turned : (cells : List ℕ) (low found : ℕ) → IsFirstPassing (is_bit_in cells) (low % 187_200) 187_200 None → IsFirstPassing (is_bit_in cells) 0 187_200 (Some found)
    → IsFirstPassing (is_held cells) low (low + 187_200) (Some (low - low % 187_200 + 187_200 + found))
held_turned cells low found none first = grind (arith, held_at)

pub held_never : (cells : List ℕ) (low : ℕ) → IsFirstPassing (is_bit_in cells) 0 187_200 None → IsFirstPassing (is_held cells) low (low + 187_200) None
held_never cells low none = λ t above below. held_at cells t (t % 187_200) refl ∙ none (t % 187_200) (omega arith) (omega arith)

-- ## Changing a cell

pub changed_here : (cells : List ℕ) (cell word : ℕ) (b : Bool) → cell / 64 < length cells → is_bit word (cell % 64) ≡ b → is_bit_in (set cells (cell / 64) word) cell ≡ b
unfolding is_bit_in
changed_here cells cell word b inside is = rw (get_or-set_same cells (cell / 64) word 0 inside) is

changed_word : (cells : List ℕ) (cell word i : ℕ) → cell / 64 < length cells → i / 64 ≡ cell / 64 → is_bit_in (set cells (cell / 64) word) i ≡ is_bit word (i % 64)
changed_word cells cell word i inside same =
    in_word (set cells (cell / 64) word) i (cell / 64) same ∙ ap (λ (w : ℕ). is_bit w (i % 64)) (get_or-set_same cells (cell / 64) word 0 inside)

pub changed_others : (cells : List ℕ) (cell word : ℕ) → cell / 64 < length cells → ((j : ℕ) → j < 64 → j ≢ cell % 64 → is_bit word j ≡ is_bit (get_or cells (cell / 64) 0) j)
    → (i : ℕ) → i ≢ cell → is_bit_in (set cells (cell / 64) word) i ≡ is_bit_in cells i
changed_others cells cell word inside others i other =
    elim (cases_eq (i / 64) (cell / 64)) [
      | inl same ↦
          let apart : i % 64 ≢ cell % 64 = λ e. other (omega arith) in
          changed_word cells cell word i inside same ∙ (others (i % 64) (omega arith) apart ∙ sym (in_word cells i (cell / 64) same))
      | inr else_where ↦
          in_word (set cells (cell / 64) word) i (i / 64) refl
          ∙ (ap (λ (w : ℕ). is_bit w (i % 64)) (get_or-set_other cells (cell / 64) (i / 64) word 0 else_where) ∙ sym (in_word cells i (i / 64) refl))
    ]
