-- Lemmas on error lines, each of which is kept once, and on texts that grow in loops.
use Rattle.std.proofs.Common.{◌≡◌, ◌∙◌, ℕ, ◌+◌, ◌<◌, Global, List, [], ◌∷◌, ◌++◌, String, ap, get_or, length, map, refl, string_bytes, sym, take}
use Rattle.std.proofs.lemmas.List.{flat_map_more, map-append, take_more}
use Rattle.std.specs.List.{flat_map}
use Rattle.cal_bytes.proofs.General.{flat_more_by}
use Rattle.cal_answers.specs.rules.ErrorText.{with_line, with_lines}

-- adding the lines of `one ++ other` adds those of `one`, and then those of `other`
pub with_lines_append : (lines one other : List (List ℕ)) → with_lines lines (one ++ other) ≡ with_lines (with_lines lines one) other
with_lines_append lines [] other = refl
with_lines_append lines (line ∷ one) other = with_lines_append (with_line lines line) one other

-- `flat_more_by` for a list of strings; `text` has the bytes of the string `x`
pub strings_more : (f : List ℕ → List ℕ) (xs : List (String Global)) (i : ℕ) (x : String Global) (text old now new : List ℕ) → i < length xs → x ≡ get_or xs i x
    → text ≡ string_bytes x → now ≡ old ++ flat_map f (map string_bytes (take i xs)) → new ≡ now ++ f text
    → new ≡ old ++ flat_map f (map string_bytes (take (i + 1) xs))
strings_more f xs i x text old now new within is same was more =
    flat_more_by f string_bytes xs i x old now new within is was (more ∙ ap (λ (bytes : List ℕ). now ++ f bytes) same)

-- one step of a loop: if the lines that `f` returns for the first `i` elements were added, and then those for the next
-- element, the lines for the first `i + 1` were added
pub lines_of_more : {X : Type 0} (f : X → List (List ℕ)) (xs : List X) (i : ℕ) (x : X) (old now new : List (List ℕ)) → i < length xs → x ≡ get_or xs i x
    → now ≡ with_lines old (flat_map f (take i xs)) → new ≡ with_lines now (f x) → new ≡ with_lines old (flat_map f (take (i + 1) xs))
lines_of_more f xs i x old now new within is was more =
    let all : take i xs ++ x ∷ [] ≡ take (i + 1) xs = ap (λ y. take i xs ++ y ∷ []) is ∙ sym (take_more xs i x within) in
    more ∙ ap (λ (lines : List (List ℕ)). with_lines lines (f x)) was ∙ sym (with_lines_append old (flat_map f (take i xs)) (f x))
    ∙ ap (with_lines old) (flat_map_more f [] (take i xs) x) ∙ ap (λ (ys : List _). with_lines old (flat_map f ys)) all

-- one step of a loop: if the line that `f` returns for each of the first `i` elements was added, and then the line for
-- the next element, the lines for the first `i + 1` were added
pub line_more : {X : Type 0} (f : X → List ℕ) (xs : List X) (i : ℕ) (x : X) (old now new : List (List ℕ)) → i < length xs → x ≡ get_or xs i x
    → now ≡ with_lines old (map f (take i xs)) → new ≡ with_line now (f x) → new ≡ with_lines old (map f (take (i + 1) xs))
line_more f xs i x old now new within is was more =
    let all : take i xs ++ x ∷ [] ≡ take (i + 1) xs = ap (λ y. take i xs ++ y ∷ []) is ∙ sym (take_more xs i x within) in
    more ∙ ap (λ (lines : List (List ℕ)). with_line lines (f x)) was ∙ sym (with_lines_append old (map f (take i xs)) (f x ∷ []))
    ∙ ap (with_lines old) (sym (map-append f (take i xs) (x ∷ []))) ∙ ap (λ (ys : List _). with_lines old (map f ys)) all
