-- Trailing blanks don't change the words of a text. They don't change how the text is parsed either, unless they make
-- it too long.
use Rattle.std.proofs.Common.{◌≡◌, ◌≤◌, ◌+◌, ◌-◌, ◌∙◌, ℕ, false, true, List, [], ◌∷◌, ◌++◌, length, drop, take, refl, sym, subst, ap, arith, append_assoc, length-drop}
use Rattle.std.specs.Prelude.{nat_lt}
use Rattle.std.specs.List.{list_all, suffix_len}
use Rattle.std.proofs.lemmas.Bool.{and_from, and_parts}
use Rattle.std.proofs.lemmas.Bool.Decides.{nat_tests}
use Rattle.std.proofs.lemmas.List.{get_or-drop, length-take, take-append-drop}
use Rattle.std.proofs.lemmas.List.Folds.{list_all-append}
use Rattle.std.proofs.lemmas.List.Sums.{list_all-from_AllPass}
use Rattle.cal_bytes.specs.rules.Trim.{trim_end_matches}
use Rattle.cal_bytes.specs.rules.Separators.{is_blank, words}
use Rattle.cal_bytes.proofs.General.{in_suffix}
use Rattle.cal_spec.specs.computed.Expr.{expr_in}
use Rattle.cal_spec.specs.computed.Grammar.{fields_in, max_text_bytes}
use Rattle.cal_spec.specs.rules.WordsOfText.{AreWords, Ends}
use Rattle.cal_spec.proofs.WordsBetween.{words_found, words_only}

still_ends : (rest back : List ℕ) → Ends rest → list_all is_blank back ≡ true → Ends (rest ++ back)
still_ends [] [] ends blank = tt
still_ends [] (b ∷ back) ends blank = (and_parts (is_blank b) (list_all is_blank back) blank).0
still_ends (r ∷ rest) back ends blank = ends

words_stay : (text back : List ℕ) (ws : List (List ℕ)) → AreWords text ws → list_all is_blank back ≡ true → AreWords (text ++ back) ws
words_stay text back [] are blank = list_all-append is_blank text back ∙ and_from (list_all is_blank text) (list_all is_blank back) are blank
words_stay text back (w ∷ ws) are blank = (
  are.0,
  are.1 ++ back,
  ap (λ whole. whole ++ back) are.2 ∙ append_assoc are.0 (w ++ are.1) back ∙ ap (λ more. are.0 ++ more) (append_assoc w are.1 back),
  are.3,
  are.4,
  still_ends are.1 back are.5 blank,
  words_stay are.1 back ws are.6 blank,
)

blanks_dropped : (text : List ℕ) → list_all is_blank (drop (length text - suffix_len is_blank text) text) ≡ true
blanks_dropped text =
    let n = length text - suffix_len is_blank text in
    list_all-from_AllPass is_blank (drop n text) (λ k d within.
    ap is_blank (get_or-drop n text k d) ∙ in_suffix is_blank text (n + k) d (omega arith) (omega (arith, length-drop n text)))

pub words-trim_end_matches : (text : List ℕ) → words (trim_end_matches is_blank text) ≡ words text
unfolding trim_end_matches
words-trim_end_matches text =
    let n = length text - suffix_len is_blank text in
    sym (words_only text (words (take n text))
    (subst (λ (whole : List ℕ). AreWords whole (words (take n text))) (take-append-drop n text)
    (words_stay (take n text) (drop n text) (words (take n text)) (words_found (take n text)) (blanks_dropped text))))

shorter : (text : List ℕ) → length text ≤ max_text_bytes → nat_lt max_text_bytes (length (trim_end_matches is_blank text)) ≡ false
unfolding trim_end_matches
shorter text short =
    let size = length-take (length text - suffix_len is_blank text) text in
    grind (arith, nat_tests)

pub same_expression : (text : List ℕ) → length text ≤ max_text_bytes → expr_in (trim_end_matches is_blank text) ≡ expr_in text
unfolding expr_in fields_in
same_expression text short =
    let here : nat_lt max_text_bytes (length text) ≡ false = grind (arith, nat_tests) in
    rw (shorter text short, here, words-trim_end_matches text) refl
