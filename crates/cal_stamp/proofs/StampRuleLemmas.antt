-- Every text has exactly one form (`HasForm`), and `form_of` returns this form.
use Rattle.std.proofs.Common.{ℕ, ◌+◌, ◌-◌, ◌<◌, ◌≤◌, ◌≡◌, Bool, true, false, inl, inr, List, [], ◌∷◌, ◌++◌, suc, length, get_or, take, drop, refl, sym, ap, ◌∙◌, arith, length-append, drop-cons, ◌&&◌, ℤ, pos, codes, Option, Some, None, eq-eqb}
use Rattle.std.specs.Prelude.{neg_ℤ, ◌==◌, if◌then◌else◌}
use Rattle.std.specs.List.{list_all, list_any, suffix_len, before_last, after_last}
use Rattle.std.specs.Str.{bytes_eq}
use Rattle.std.proofs.Math.Seq.{take-append_seam, get_or-append_right, get_or-append_seam, drop-append-add}
use Rattle.std.proofs.lemmas.List.Folds.{list_any_at}
use Rattle.std.proofs.lemmas.Bool.{cases_lt, and_parts, eqb-true, false≢true}
use Rattle.std.proofs.lemmas.List.{append_cancel_left, take-append-drop}
use Rattle.std.proofs.lemmas.List.Sums.{AllPass-from_list_all, suffix_len_is, suffix_len-le-length}
use Rattle.std.proofs.lemmas.Slice.Eq.{bytes_eq-Decides}
use Rattle.cal_bytes.proofs.TrimLemmas.{trim_is, trim_only}
use Rattle.cal_bytes.proofs.WordLemmas.{is_solid, last_blank, no_blank}
use Rattle.cal_bytes.specs.rules.Trim.{trim_matches}
use Rattle.cal_bytes.specs.rules.Separators.{is_blank, words}
use Rattle.cal_stamp.specs.rules.StampRule.{Form, present, later, earlier, counted, from_today, civil, IsNothing, IsPresent, IsBehindSign, IsBeforeWord, IsRelativeDay, IsCivilForm, OrElse, FitsByWords, FitsByEnd, FitsBySign, FitsFirst, HasForm}
use Rattle.cal_stamp.specs.computed.StampForm.{day_shift, form_of, form_by_end, form_of_solid, form_of_words, form_by_day, form_by_ago, form_by_left}

-- ## There is at most one form

abbrev IsOne : (List ℕ → Form → Type 0) → Type 0
IsOne P = (core : List ℕ) (f g : Form) → P core f → P core g → f ≡ g

or_else : (P Q : List ℕ → Form → Type 0) → IsOne P → IsOne Q → IsOne (OrElse P Q)
or_else P Q one two core f g (inl p) (inl q) = one core f g p q
or_else P Q one two core f g (inl p) (inr q) = absurd (q.0 f p)
or_else P Q one two core f g (inr p) (inl q) = absurd (p.0 g q)
or_else P Q one two core f g (inr p) (inr q) = two core f g p.1 q.1

one_nothing : IsOne IsNothing
one_nothing core f g p q = p.1 ∙ sym q.1

one_present : IsOne IsPresent
one_present core f g p q = p.1 ∙ sym q.1

one_after_sign : (sign : List ℕ) (means : List ℕ → Form) → IsOne (IsBehindSign sign means)
one_after_sign sign means core f g p q =
    p.2 ∙ ap means (append_cancel_left sign p.0 q.0 (sym p.1 ∙ q.1)) ∙ sym q.2

same_front : (word s t : List ℕ) (b c : ℕ) → s ++ (b ∷ word) ≡ t ++ (c ∷ word) → s ≡ t
same_front word s t b c e =
    let long : length s ≡ length t = omega (arith, length-append s (b ∷ word), length-append t (c ∷ word), ap length e) in
    sym (take-append_seam s (b ∷ word)) ∙ ap (take (length s)) e ∙ ap (λ n. take n (t ++ (c ∷ word))) long ∙ take-append_seam t (c ∷ word)

one_before_word : (word : List ℕ) (means : List ℕ → Form) → IsOne (IsBeforeWord word means)
one_before_word word means core f g p q =
    p.4 ∙ ap means (same_front word p.0 q.0 p.1 q.1 (sym p.3 ∙ q.3)) ∙ sym q.4

one_relative_day : (word : List ℕ) (shift : ℤ) → IsOne (IsRelativeDay word shift)
one_relative_day word shift core f g p q =
    let same : word ∷ p.0 ≡ word ∷ q.0 = sym p.1 ∙ q.1 in
    let rest : p.0 ≡ q.0 = cc in
    p.2 ∙ ap (from_today shift) rest ∙ sym q.2

one_civil : IsOne IsCivilForm
one_civil core f g p q = p ∙ sym q

one_by_words : IsOne FitsByWords
one_by_words =
    or_else _ (OrElse (IsRelativeDay (codes "yesterday") (neg_ℤ (pos 1))) (OrElse (IsRelativeDay (codes "tomorrow") (pos 1)) IsCivilForm)) (one_relative_day (codes "today") (pos 0))
    (or_else _ (OrElse (IsRelativeDay (codes "tomorrow") (pos 1)) IsCivilForm) (one_relative_day (codes "yesterday") (neg_ℤ (pos 1)))
    (or_else _ IsCivilForm (one_relative_day (codes "tomorrow") (pos 1)) one_civil))

one_by_end : IsOne FitsByEnd
one_by_end =
    or_else _ (OrElse (IsBeforeWord (codes "ago") earlier) FitsByWords) (one_before_word (codes "left") later)
    (or_else _ FitsByWords (one_before_word (codes "ago") earlier) one_by_words)

one_by_sign : IsOne FitsBySign
one_by_sign =
    or_else _ (OrElse (IsBehindSign (codes "-") earlier) (OrElse (IsBehindSign (codes "@") counted) FitsByEnd)) (one_after_sign (codes "+") later)
    (or_else _ (OrElse (IsBehindSign (codes "@") counted) FitsByEnd) (one_after_sign (codes "-") earlier)
    (or_else _ FitsByEnd (one_after_sign (codes "@") counted) one_by_end))

one_fits : IsOne FitsFirst
one_fits = or_else IsNothing (OrElse IsPresent FitsBySign) one_nothing (or_else IsPresent FitsBySign one_present one_by_sign)

-- ## The form that `form_of` returns is the first form that matches

by_sign : (Q : List ℕ → Form → Type 0) (means : List ℕ → Form) (sign b : ℕ) (bs : List ℕ) (rest : Form) (test : Bool) → (b == sign) ≡ test → Q (b ∷ bs) rest
    → OrElse (IsBehindSign (sign ∷ []) means) Q (b ∷ bs) (if test then means bs else rest)
by_sign Q means sign b bs rest true e h = inl (bs, ap (λ c. c ∷ bs) (eqb-true b sign e), refl)
by_sign Q means sign b bs rest false e h =
    inr (
      λ other p.
          let front : b ∷ bs ≡ sign ∷ p.0 = p.1 in
          let same : b ≡ sign = cc in
          absurd (false≢true (sym e ∙ eq-eqb b sign same)),
      h,
    )

by_day : (Q : List ℕ → Form → Type 0) (name : List ℕ) (shift : ℤ) (core w : List ℕ) (ws : List (List ℕ)) (rest : Option ℤ) (test : Bool) → bytes_eq w name ≡ test → words core ≡ w ∷ ws → Q core (form_by_day rest w ws)
    → OrElse (IsRelativeDay name shift) Q core (form_by_day (if test then Some shift else rest) w ws)
by_day Q name shift core w ws rest true e are h =
    inl (ws, are ∙ ap (λ v. v ∷ ws) ((bytes_eq-Decides w name).0 e), refl)
by_day Q name shift core w ws rest false e are h =
    inr (
      λ other p.
          let front : w ∷ ws ≡ name ∷ p.0 = sym are ∙ p.1 in
          let same : w ≡ name = cc in
          absurd (false≢true (sym e ∙ (bytes_eq-Decides w name).1 same)),
      h,
    )

no_day : (name : List ℕ) (shift : ℤ) (core : List ℕ) (other : Form) → words core ≡ [] → IsRelativeDay name shift core other → ⊥
no_day name shift core other none p =
    let front : [] ≡ name ∷ p.0 = sym none ∙ p.1 in cc

by_words : (core : List ℕ) (ws : List (List ℕ)) → words core ≡ ws → FitsByWords core (form_of_words ws)
unfolding day_shift
by_words core [] are =
    inr (λ o p. no_day (codes "today") (pos 0) core o are p, inr (λ o p. no_day (codes "yesterday") (neg_ℤ (pos 1)) core o are p, inr (λ o p. no_day (codes "tomorrow") (pos 1) core o are p, ap civil (sym are))))
by_words core (w ∷ ws) are =
    by_day (OrElse (IsRelativeDay (codes "yesterday") (neg_ℤ (pos 1))) (OrElse (IsRelativeDay (codes "tomorrow") (pos 1)) IsCivilForm)) (codes "today") (pos 0) core w ws _ _ refl are
    (by_day (OrElse (IsRelativeDay (codes "tomorrow") (pos 1)) IsCivilForm) (codes "yesterday") (neg_ℤ (pos 1)) core w ws _ _ refl are
    (by_day IsCivilForm (codes "tomorrow") (pos 1) core w ws None _ refl are (ap civil (sym are))))

-- The next four lemmas: if a text has a blank, the part after its last blank is shorter than the text. If this part is
-- `word`, the text ends with a blank and `word`. Conversely, if a text ends with a blank and `word`, and `word` has no
-- blanks, then the part after the last blank is as long as `word`, and it is `word`.
some_blank_within : (text : List ℕ) → list_any is_blank text ≡ true → suffix_len is_solid text < length text
some_blank_within text some =
    elim (cases_lt (suffix_len is_solid text) (length text)) [
      | inl within ↦ within
      | inr past ↦ absurd (false≢true (sym (no_blank text (omega (arith, suffix_len-le-length is_solid text))) ∙ some))
    ]

split_at_word : (word text : List ℕ) → (list_any is_blank text && bytes_eq (after_last is_blank text) word) ≡ true → (blank : ℕ) × (is_blank blank ≡ true) × (text ≡ before_last is_blank text ++ (blank ∷ word))
split_at_word word text e =
    let parts = and_parts (list_any is_blank text) (bytes_eq (after_last is_blank text) word) e in
    let within = some_blank_within text parts.0 in
    let start = length text - suffix_len is_solid text in
    let blank = get_or text (start - 1) 0 in
    let inside : start - 1 < length text = omega arith in
    let next : suc (start - 1) ≡ start = omega arith in
    let after = drop-cons text (start - 1) 0 inside ∙ ap (λ n. blank ∷ drop n text) next ∙ ap (λ ws. blank ∷ ws) ((bytes_eq-Decides (after_last is_blank text) word).0 parts.1) in
    (blank, last_blank text within, sym (take-append-drop (start - 1) text) ∙ ap (λ ws. take (start - 1) text ++ ws) after)

last_of : (word span : List ℕ) (blank : ℕ) → list_all is_solid word ≡ true → is_blank blank ≡ true → suffix_len is_solid (span ++ (blank ∷ word)) ≡ length word
last_of word span blank solid is =
    let n = length span in
    let text = span ++ (blank ∷ word) in
    let long = length-append span (blank ∷ word) in
    let last = suffix_len_is is_solid text (n + 1) 0 (omega (arith, long))
    (λ k from within.
    let front : n ≤ k = omega arith in
    let later : k - n ≡ suc (k - n - 1) = omega arith in
    rw (get_or-append_right span (blank ∷ word) k 0 front, later) (AllPass-from_list_all is_solid word solid (k - n - 1) 0 (omega (arith, long))))
    (λ some.
    let here : n + 1 - 1 ≡ n = omega arith in
    rw (here, get_or-append_seam span blank word 0, is) refl) in
    omega (arith, long, last)

ends_in_word : (word span : List ℕ) (blank : ℕ) → list_all is_solid word ≡ true → is_blank blank ≡ true → (list_any is_blank (span ++ (blank ∷ word)) && bytes_eq (after_last is_blank (span ++ (blank ∷ word))) word) ≡ true
ends_in_word word span blank solid is =
    let n = length span in
    let text = span ++ (blank ∷ word) in
    let long = length-append span (blank ∷ word) in
    let some = list_any_at is_blank text n 0 (omega (arith, long)) (rw (get_or-append_seam span blank word 0) is) in
    let start : length text - suffix_len is_solid text ≡ n + 1 = omega (arith, long, last_of word span blank solid is) in
    let after = ap (λ k. drop k text) start ∙ drop-append-add span (blank ∷ word) 1 in
    rw (some, (bytes_eq-Decides (after_last is_blank text) word).1 after) refl

no_word : (word text : List ℕ) (means : List ℕ → Form) (other : Form) → list_all is_solid word ≡ true → (list_any is_blank text && bytes_eq (after_last is_blank text) word) ≡ false → IsBeforeWord word means text other → ⊥
no_word word text means other solid e p =
    absurd (false≢true (sym e ∙ rw p.3 (ends_in_word word p.0 p.1 solid p.2)))

by_ago : (text : List ℕ) (test : Bool) → (list_any is_blank text && bytes_eq (after_last is_blank text) (codes "ago")) ≡ test
    → OrElse (IsBeforeWord (codes "ago") earlier) FitsByWords text (form_by_ago (if test then Some (before_last is_blank text) else None) text)
by_ago text true e =
    let split = split_at_word (codes "ago") text e in inl (before_last is_blank text, split.0, split.1, split.2, refl)
by_ago text false e = inr (λ o p. no_word (codes "ago") text earlier o refl e p, by_words text (words text) refl)

by_left : (text : List ℕ) (test : Bool) → (list_any is_blank text && bytes_eq (after_last is_blank text) (codes "left")) ≡ test
    → FitsByEnd text (form_by_left (if test then Some (before_last is_blank text) else None) text)
by_left text true e =
    let split = split_at_word (codes "left") text e in inl (before_last is_blank text, split.0, split.1, split.2, refl)
by_left text false e = inr (λ o p. no_word (codes "left") text later o refl e p, by_ago text _ refl)

by_end : (text : List ℕ) → FitsByEnd text (form_by_end text)
unfolding form_by_end
by_end text = by_left text _ refl

by_now : (core : List ℕ) (rest : Form) (test : Bool) → bytes_eq core (codes "now") ≡ test → FitsBySign core rest → OrElse IsPresent FitsBySign core (if test then present else rest)
by_now core rest true e h = inl ((bytes_eq-Decides core (codes "now")).0 e, refl)
by_now core rest false e h =
    inr (λ other p. absurd (false≢true (sym e ∙ (bytes_eq-Decides core (codes "now")).1 p.0)), h)

pub fits-form_of_solid : (core : List ℕ) → FitsFirst core (form_of_solid core)
fits-form_of_solid [] = inl (refl, refl)
fits-form_of_solid (b ∷ bs) =
    inr (
      λ other p. let none : b ∷ bs ≡ [] = p.0 in cc,
      by_now (b ∷ bs) _ _ refl
          (by_sign (OrElse (IsBehindSign (codes "-") earlier) (OrElse (IsBehindSign (codes "@") counted) FitsByEnd)) later 43 b bs _ _ refl
          (by_sign (OrElse (IsBehindSign (codes "@") counted) FitsByEnd) earlier 45 b bs _ _ refl
          (by_sign FitsByEnd counted 64 b bs _ _ refl (by_end (b ∷ bs))))),
    )

pub found : (text : List ℕ) → HasForm text (form_of text)
unfolding form_of
found text = record { core = trim_matches is_blank text; trimmed = trim_is is_blank text; fits = fits-form_of_solid (trim_matches is_blank text) }

pub only : (text : List ℕ) (form : Form) → HasForm text form → form ≡ form_of text
unfolding form_of
only text form h =
    let core = trim_only is_blank text h.core h.trimmed in
    one_fits h.core form (form_of_solid h.core) h.fits (fits-form_of_solid h.core) ∙ ap form_of_solid core
