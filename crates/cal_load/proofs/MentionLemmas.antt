-- A text in a text: what `contains` of std returns.
use Rattle.std.proofs.Common.{◌≡◌, ◌∙◌, ◌||◌, ℕ, Bool, true, false, List, [], ◌∷◌, ◌++◌, None, ap, drop, length, nat_eq, refl, sym}
use Rattle.std.proofs.lemmas.Bool.Decides.{Decides-eqb}
use Rattle.std.proofs.lemmas.Slice.Eq.{starts_is}
use Rattle.std.proofs.lemmas.Str.Pattern.{contains_text}
use Rattle.std.specs.Bool.{MatchBool}
use Rattle.std.specs.List.{starts_with}
use Rattle.std.specs.Str.Iter.{HasSubslice}
use Rattle.std.specs.Str.Pattern.{FindsText, HasMatch}
use Rattle.cal_load.specs.rules.Condition.{has_text}

starts : (needle text rest : List ℕ) → text ≡ needle ++ rest → starts_with nat_eq text needle ≡ true
starts needle text rest is = (starts_is Decides-eqb text needle _ refl).1 rest is

found_or : (needle : List ℕ) (b : ℕ) (bs : List ℕ) (r : Bool) → r ≡ starts_with nat_eq (b ∷ bs) needle → r || has_text needle bs ≡ true
    → (has_text needle bs ≡ true → HasSubslice bs needle) → HasSubslice (b ∷ bs) needle
found_or needle b bs true same has later = ([], drop (length needle) (b ∷ bs), (starts_is Decides-eqb (b ∷ bs) needle _ refl).0 (sym same))
found_or needle b bs false same has later = let found = later has in (b ∷ found.0, found.1, ap (λ l. b ∷ l) found.2)

found_in : (needle text : List ℕ) → has_text needle text ≡ true → HasSubslice text needle
unfolding has_text
found_in needle [] is = ([], drop (length needle) [], (starts_is Decides-eqb [] needle _ refl).0 is)
found_in needle (b ∷ bs) is = found_or needle b bs (starts_with nat_eq (b ∷ bs) needle) refl is (found_in needle bs)

front_true : (needle text rest : List ℕ) → text ≡ needle ++ rest → has_text needle text ≡ true
unfolding has_text
front_true needle [] rest is = starts needle [] rest is
front_true needle (b ∷ bs) rest is = ap (λ r. r || has_text needle bs) (starts needle (b ∷ bs) rest is)

or_true : (r : Bool) → r || true ≡ true
or_true true = refl
or_true false = refl

inside_true : (needle before rest : List ℕ) → has_text needle (before ++ (needle ++ rest)) ≡ true
unfolding has_text
inside_true needle [] rest = front_true needle (needle ++ rest) rest refl
inside_true needle (b ∷ bs) rest =
    ap (λ r. starts_with nat_eq (b ∷ (bs ++ (needle ++ rest))) needle || r) (inside_true needle bs rest)
    ∙ or_true (starts_with nat_eq (b ∷ (bs ++ (needle ++ rest))) needle)

-- `contains` returns whether the text contains the needle
pub contains_is : (r : Bool) (needle text : List ℕ) → MatchBool r (HasMatch (FindsText needle) text) (FindsText needle text None)
    → r ≡ has_text needle text
contains_is true needle text is =
    let at = (contains_text true needle text is).0 refl in
    sym (ap (has_text needle) at.2 ∙ inside_true needle at.0 at.1)
contains_is false needle text is = by (has_text needle text) refl
  where
    by : (r : Bool) → r ≡ has_text needle text → false ≡ r
    by true same = (contains_text false needle text is).1 (found_in needle text (sym same))
    by false same = refl
