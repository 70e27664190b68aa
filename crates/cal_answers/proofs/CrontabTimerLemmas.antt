-- Lemmas on the timers that are made of the entries of crontabs, and on the error lines about crontabs.
use Rattle.std.proofs.Common.{◌≡◌, ◌∙◌, ℕ, ◌+◌, ◌<◌, List, [], ◌∷◌, ◌++◌, All, ap, arith, get_or, length, map, subst, sym, take}
use Rattle.std.proofs.Math.Seq.{get_or-append_seam}
use Rattle.std.proofs.lemmas.List.{length-append, map_more}
use Rattle.std.proofs.lemmas.List.Elements.{All-get_or}
use Rattle.std.specs.List.{AllZip}
use Rattle.cal_timers_report.proofs.RowLemmas.{all_zip_push}
use Rattle.cal_answers.specs.rules.Printed.{Printed, with_errors}

-- one step of a loop: if `ys` has a value for each of the first `i` elements, and `more` is `ys` with the value for the
-- next element appended, then `more` has one for each of the first `i + 1`
pub values_more : {X A B : Type 0} (R : A → B → Type 0) (view : X → A) (xs : List X) (i : ℕ) (x : X) (ys more : List B) (y : B)
    → i < length xs → x ≡ get_or xs i x → AllZip R (map view (take i xs)) ys → R (view x) y → more ≡ ys ++ y ∷ []
    → AllZip R (map view (take (i + 1) xs)) more
values_more R view xs i x ys more y within is before last pushed =
    subst (λ zs. AllZip R (map view (take (i + 1) xs)) zs) (sym pushed)
    (subst (λ zs. AllZip R zs (ys ++ y ∷ [])) (sym (map_more view xs i x within))
    (all_zip_push R (map view (take i xs)) ys (view (get_or xs i x)) y before
    (subst (λ z. R (view z) y) is last)))

-- what is true of each element of a list is true of the last one
pub last_passes : {X : Type 0} (P : X → Type 0) (front : List X) (x : X) → All P (front ++ x ∷ []) → P x
last_passes P front x all =
    let long : length (front ++ x ∷ []) ≡ length front + 1 = length-append front (x ∷ []) in
    subst P (get_or-append_seam front x [] x) (All-get_or P (front ++ x ∷ []) (length front) x (omega (arith, long)) all)

-- error lines that are added in two steps, with equal texts in place of those that were added
pub errors_added : (errors errors' lines lines' : List ℕ) (answer between printed : Printed) → printed ≡ with_errors lines between → between ≡ with_errors errors answer
    → lines ≡ lines' → errors ≡ errors' → printed ≡ with_errors lines' (with_errors errors' answer)
errors_added errors errors' lines lines' answer between printed is before same_lines same_errors =
    is ∙ ap (λ text. with_errors text between) same_lines ∙ ap (with_errors lines') (before ∙ ap (λ text. with_errors text answer) same_errors)
