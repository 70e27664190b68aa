-- How the masks of an expression tell which months match. The mask of years has a bit for each of the 230 years, and is
-- stored in four machine words of 64 bits. The mask of month numbers is one such word. A month matches if the bits of
-- its year and of its month number are set.
use Rattle.std.proofs.Common.{◌≡◌, ℕ, ◌+◌, ◌-◌, ◌*◌, ◌/◌, ◌%◌, ◌<◌, ◌≤◌, ◌&&◌, nat_le, List, get_or, Some, subst, refl, ◌∙◌, arith}
use Rattle.std.proofs.lemmas.Bool.Decides.{nat_tests}
use Rattle.std.proofs.lemmas.Bool.{and_right}
use Rattle.cal_elapse.specs.computed.Bits.{is_bit, is_bit_in}
use Rattle.cal_elapse.specs.computed.Masks.{sets_in}
use Rattle.cal_elapse.specs.rules.Months.{month_in}
use Rattle.cal_elapse.specs.rules.Search.{IsFirstPassing, NonePasses}
use Rattle.cal_elapse.specs.declared.masks.Masks.{Masks}
use Rattle.cal_elapse.proofs.BitLemmas.{is_bit-none}
use Rattle.cal_elapse.proofs.CarryLemmas.{Splits, split_at}

-- in a list of words, bit `b` of the word with index `a` stands for the number a * 64 + b
pub in_word : (masks : List ℕ) (a b : ℕ) → b < 64 → is_bit_in masks (a * 64 + b) ≡ is_bit (get_or masks a 0) b
unfolding is_bit_in
in_word masks a b small = grind arith

in_word_at : (masks : List ℕ) (a t : ℕ) → a * 64 ≤ t → t < (a + 1) * 64 → is_bit_in masks t ≡ is_bit (get_or masks a 0) (t - a * 64)
in_word_at masks a t low high =
    let parts : a * 64 + (t - a * 64) ≡ t = omega arith in
    subst (λ (n : ℕ). is_bit_in masks n ≡ is_bit (get_or masks a 0) (t - a * 64)) parts (in_word masks a (t - a * 64) (omega arith))

pub none_in_word : (masks : List ℕ) (a l from : ℕ) → a * 64 + l ≡ from → NonePasses (is_bit (get_or masks a 0)) l 64 → NonePasses (is_bit_in masks) from ((a + 1) * 64)
none_in_word masks a l from parts none = λ t above below. in_word_at masks a t (omega arith) below ∙ none (t - a * 64) (omega arith) (omega arith)

pub first_in_word : (masks : List ℕ) (a l from b : ℕ) → a * 64 + l ≡ from → IsFirstPassing (is_bit (get_or masks a 0)) l 64 (Some b)
    → IsFirstPassing (is_bit_in masks) from ((a + 1) * 64) (Some (a * 64 + b))
first_in_word masks a l from b parts found =
    let high = found.1 in (
      omega arith,
      omega arith,
      in_word masks a b high ∙ found.2,
      λ t above below. in_word_at masks a t (omega arith) (omega arith) ∙ found.3 (t - a * 64) (omega arith) (omega arith),
    )

-- a month matches if and only if both its year and its month number match
pub months_split : (m : Masks) → Splits (month_in (sets_in m)) (is_bit_in m.years) (is_bit m.months) 12 230
unfolding sets_in month_in
months_split m = grind (arith, nat_le, nat_tests)

pub month_is : (m : Masks) (n : ℕ) → n < 2_760 → month_in (sets_in m) n ≡ (is_bit_in m.years (n / 12) && is_bit m.months (n % 12))
month_is m n inside = split_at (months_split m) (n / 12) n (omega arith) refl

-- if no month number matches, no month does
pub no_months : (m : Masks) (from : ℕ) → m.months ≡ 0 → NonePasses (month_in (sets_in m)) from 2_760
no_months m from empty = grind (arith, is_bit-none, month_is, and_right)
