-- How comparing the masks of two expressions shows that, field by field, one expression matches all values that the
-- other matches. A mask has one bit for each value that a field of an expression matches.
use Rattle.std.proofs.Common.{◌≡◌, ℕ, List, arith, bit_or, get_or, length}
use Rattle.std.proofs.lemmas.Bool.{or_right}
use Rattle.std.proofs.Math.ListN.{get_or-eq_default}
use Rattle.cal_elapse.specs.computed.Bits.{is_bit, is_bit_in}
use Rattle.cal_elapse.specs.rules.Covered.{AreAmong, HasAll}
use Rattle.cal_elapse.specs.computed.Masks.{sets_in}
use Rattle.cal_elapse.specs.declared.masks.Masks.{Masks}
use Rattle.cal_elapse.proofs.BitLemmas.{is_bit-none, is_bit-or}
use Rattle.cal_bytes.proofs.General.{both_follow}

-- if the bitwise OR with `others` adds no bit to `mask`, then `mask` has all bits of `others`
pub has_all : (mask others : ℕ) → bit_or mask others ≡ mask → HasAll (is_bit mask) (is_bit others)
has_all mask others same i other = grind (arith, is_bit-or, or_right)

-- Suppose that `others` has four masks. If each of the four masks in `masks` has all bits of the mask in `others` with
-- the same index, then the set in `masks` contains the set in `others`.
pub have_all : (masks others : List ℕ) → length others ≡ 4 → HasAll (is_bit (get_or masks 0 0)) (is_bit (get_or others 0 0))
    → HasAll (is_bit (get_or masks 1 0)) (is_bit (get_or others 1 0)) → HasAll (is_bit (get_or masks 2 0)) (is_bit (get_or others 2 0))
    → HasAll (is_bit (get_or masks 3 0)) (is_bit (get_or others 3 0)) → HasAll (is_bit_in masks) (is_bit_in others)
unfolding is_bit_in
have_all masks others four first second third fourth i = grind (arith, get_or, length, get_or-eq_default, is_bit-none)

-- Suppose that `masks` and `others` count days from the same end of the month. If each field of `masks` has all bits of
-- the same field of `others`, then `masks` has every value that `others` has, field by field.
pub among : (masks others : Masks) → HasAll (is_bit masks.weekdays) (is_bit others.weekdays) → HasAll (is_bit_in masks.years) (is_bit_in others.years)
    → HasAll (is_bit masks.months) (is_bit others.months) → HasAll (is_bit masks.days) (is_bit others.days) → HasAll (is_bit masks.hours) (is_bit others.hours)
    → HasAll (is_bit masks.minutes) (is_bit others.minutes) → HasAll (is_bit masks.seconds) (is_bit others.seconds) → masks.from_end ≡ others.from_end
    → AreAmong (sets_in others) (sets_in masks)
unfolding sets_in
among masks others weekdays years months days hours minutes seconds turned = grind (arith, both_follow)
