-- A lemma about taking the first numbers of a source one by one.
use Rattle.std.proofs.Common.{◌≡◌, ℕ, suc, ◌+◌, ◌-◌, ◌<◌, ◌++◌, List, [], ◌∷◌, Some, ℤ, slice_get, take, drop, sym, ap, ◌∙◌, append_assoc, arith}
use Rattle.cal_bytes.proofs.General.{list-first}

-- `whole` consists of the numbers taken so far and those still to be taken; taking one more number doesn't change
-- `whole`
pub taken_more : (first new whole rest left : List ℤ) (count i : ℕ) (x : ℤ) → i < count → slice_get rest 0 ≡ Some x → left ≡ drop 1 rest → first ++ take (count - i) rest ≡ whole → new ≡ first ++ x ∷ []
    → new ++ take (count - (i + 1)) left ≡ whole
taken_more first new whole rest left count i x more given left_is was now =
    let k = count - (i + 1) in
    let after : count - i ≡ suc (count - (i + 1)) = omega arith in
    let taken : take (count - i) rest ≡ x ∷ take k left
    = ap (λ (n : ℕ). take n rest) after ∙ ap (take (suc k)) (list-first rest x given) ∙ ap (λ (ys : List ℤ). x ∷ take k ys) (sym left_is) in
    ap (λ (ys : List ℤ). ys ++ take k left) now ∙ append_assoc first (x ∷ []) (take k left) ∙ ap (λ (ys : List ℤ). first ++ ys) (sym taken) ∙ was
