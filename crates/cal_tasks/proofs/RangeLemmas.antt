-- Lemmas on the elapses of one timer in a range, which are collected one by one.
use Rattle.std.proofs.Common.{◌≡◌, ℕ, ◌++◌, List, [], ◌∷◌, drop, slice_get, Some, ℤ, ◌≤ℤ◌, false, refl, sym, ap, ◌∙◌, arith}
use Rattle.std.proofs.lemmas.Int.{ints}
use Rattle.std.proofs.lemmas.List.{append-nil}
use Rattle.std.proofs.lemmas.Map.Keys.{sorted_head}
use Rattle.std.specs.List.{AllByRecursion}
use Rattle.std.specs.List.Sorted.{IsStrictlySortedBy}
use Rattle.std.specs.Ordering.{int_cmp}
use Rattle.std.specs.declared.cmp.Ordering.TheVariants.{Less}
use Rattle.cal_bytes.proofs.General.{list-first, lt_from_less}
use Rattle.cal_tasks.specs.rules.SeveralTimers.{Elapse, in_range, range_of_one}

-- leaving out the first elapse, if it is outside the range, doesn't change which elapses are in the range
left_out : (from before : ℤ) (timer : ℕ) (x : ℤ) (xs : List ℤ) → in_range from before x ≡ false
    → range_of_one from before timer (x ∷ xs) ≡ range_of_one from before timer xs
left_out from before timer x xs h = grind arith

in_range-late : (from before x : ℤ) → before ≤ℤ x → in_range from before x ≡ false
in_range-late from before x late = grind (arith, ints)

-- if `x` is at or after the end of the range, no number above `x` is in the range
none_past : (from before : ℤ) (timer : ℕ) (x : ℤ) (xs : List ℤ) → before ≤ℤ x → AllByRecursion (λ y. int_cmp x y ≡ Less) xs → range_of_one from before timer xs ≡ []
none_past from before timer x [] late above = refl
none_past from before timer x (y ∷ xs) late above =
    let later : before ≤ℤ y = let over = lt_from_less x y above.0 in omega (arith, ints) in
    left_out from before timer y xs (in_range-late from before y later) ∙ none_past from before timer x xs late above.1

-- if the first elapse is at or after the end of the range, no elapse is in the range
pub range_past : (from before : ℤ) (timer : ℕ) (x : ℤ) (xs : List ℤ) (found whole : List Elapse) → slice_get xs 0 ≡ Some x → IsStrictlySortedBy int_cmp xs → before ≤ℤ x
    → found ++ range_of_one from before timer xs ≡ whole → found ≡ whole
range_past from before timer x xs found whole first rises late all =
    let split = list-first xs x first in
    let none : range_of_one from before timer xs ≡ []
    = ap (range_of_one from before timer) split
    ∙ left_out from before timer x (drop 1 xs) (in_range-late from before x late)
    ∙ none_past from before timer x (drop 1 xs) late (sorted_head int_cmp x (drop 1 xs) (rw split at rises)) in
    sym (append-nil found) ∙ sym (ap (λ ys. found ++ ys) none) ∙ all
