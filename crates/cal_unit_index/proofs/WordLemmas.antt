-- Lemmas for a loop that tests the words of a list in order: if a word passes the test, some word of the list does; a
-- word that doesn't pass can be left out.
use Rattle.std.proofs.Common.{◌≡◌, ◌∙◌, ◌+◌, ◌<◌, ◌||◌, ℕ, Bool, Bor, true, false, List, add-one, ap, drop, drop-cons, get_or, length, map, refl, sym}
use Rattle.std.proofs.lemmas.Bool.Decides.{same_from_decides}
use Rattle.std.proofs.lemmas.Slice.Eq.{bytes_eq-Decides}
use Rattle.std.specs.Bool.{Decides}
use Rattle.std.specs.List.{list_any}
use Rattle.std.specs.Str.{str_eq_ignore_ascii_case, str_to_ascii_lowercase}

next_word : (test : List ℕ → Bool) (words : List (Bor (List ℕ))) (i : ℕ) (word : Bor (List ℕ)) → i < length words
    → list_any test (map (λ word. word.now) (drop i words)) ≡ (test (get_or words i word).now || list_any test (map (λ word. word.now) (drop (i + 1) words)))
next_word test words i word h = rw (add-one, drop-cons words i word h) refl

pub word_found : (test : List ℕ → Bool) (words : List (Bor (List ℕ))) (i : ℕ) (word : Bor (List ℕ)) → i < length words → test (get_or words i word).now ≡ true
    → list_any test (map (λ word. word.now) (drop i words)) ≡ list_any test (map (λ word. word.now) words) → true ≡ list_any test (map (λ word. word.now) words)
word_found test words i word h e all =
    ap (λ here. here || list_any test (map (λ word. word.now) (drop (i + 1) words))) (sym e) ∙ sym (next_word test words i word h) ∙ all

pub word_passed : (test : List ℕ → Bool) (words : List (Bor (List ℕ))) (i : ℕ) (word : Bor (List ℕ)) → i < length words → test (get_or words i word).now ≡ false
    → list_any test (map (λ word. word.now) (drop i words)) ≡ list_any test (map (λ word. word.now) words)
    → list_any test (map (λ word. word.now) (drop (i + 1) words)) ≡ list_any test (map (λ word. word.now) words)
word_passed test words i word h e all =
    ap (λ here. here || list_any test (map (λ word. word.now) (drop (i + 1) words))) (sym e) ∙ sym (next_word test words i word h) ∙ all

pub same_word : (r : Bool) (value word : List ℕ) → Decides r (str_to_ascii_lowercase value ≡ str_to_ascii_lowercase word) → r ≡ str_eq_ignore_ascii_case value word
same_word r value word h = same_from_decides r (str_eq_ignore_ascii_case value word) h (bytes_eq-Decides (str_to_ascii_lowercase value) (str_to_ascii_lowercase word))
