-- The positions of words in a text, by which `fault_span` finds the word at fault.
use Rattle.std.proofs.Common.{◌≡◌, ◌<◌, ◌≤◌, ◌+◌, ◌-◌, ◌∙◌, ◌⊎◌, ◌==◌, ◌||◌, ℕ, Bool, true, false, not, List, length, get_or, drop, take, sym, ap, subst, arith, inl, inr, length-drop}
use Rattle.std.specs.List.{prefix_len}
use Rattle.std.proofs.lemmas.Bool.{cases_lt, not-true, not-false}
use Rattle.std.proofs.lemmas.Bool.Decides.{nat_tests}
use Rattle.std.proofs.lemmas.List.{get_or-drop, length-take, take_all}
use Rattle.std.proofs.lemmas.List.Sums.{prefix_len_passes, prefix_len_stops, suffix_len_is}
use Rattle.cal_bytes.specs.rules.Trim.{trim_end_matches}
use Rattle.cal_bytes.specs.rules.Separators.{is_blank}
use Rattle.cal_spec.specs.rules.WordsOfText.{IsWordAt}

-- contracts describe the slice `&text[from..]` as `take (length text - from) (drop from text)`; this is the text
-- without its first `from` bytes
pub rest_from : (text : List ℕ) (from : ℕ) → take (length text - from) (drop from text) ≡ drop from text
rest_from text from = take_all (length text - from) (drop from text) (omega (arith, length-drop from text))

-- the bytes from `from` up to the next word are blanks
pub gap_is_blank : (text : List ℕ) (from start : ℕ) → start ≡ from + prefix_len is_blank (drop from text)
    → (i : ℕ) → from ≤ i → i < start → is_blank (get_or text i 0) ≡ true
gap_is_blank text from start e i after before =
    let place : from + (i - from) ≡ i = omega arith in
    ap (λ k. is_blank (get_or text k 0)) (sym place)
    ∙ ap is_blank (sym (get_or-drop from text (i - from) 0))
    ∙ prefix_len_passes is_blank (drop from text) (i - from) 0 (omega arith)

-- the bytes of the next word are not blanks
pub word_is_solid : (text : List ℕ) (start end : ℕ) → end ≡ start + prefix_len (λ b. not (is_blank b)) (drop start text)
    → (i : ℕ) → start ≤ i → i < end → is_blank (get_or text i 0) ≡ false
word_is_solid text start end e i after before =
    let place : start + (i - start) ≡ i = omega arith in
    ap (λ k. is_blank (get_or text k 0)) (sym place)
    ∙ ap is_blank (sym (get_or-drop start text (i - start) 0))
    ∙ not-true (is_blank (get_or (drop start text) (i - start) 0)) (prefix_len_passes (λ b. not (is_blank b)) (drop start text) (i - start) 0 (omega arith))

-- the byte after the next word is a blank, unless the text ends there
pub word_ends : (text : List ℕ) (start end : ℕ) → end ≡ start + prefix_len (λ b. not (is_blank b)) (drop start text) → end < length text → is_blank (get_or text end 0) ≡ true
word_ends text start end e within =
    ap (λ k. is_blank (get_or text k 0)) e
    ∙ ap is_blank (sym (get_or-drop start text (prefix_len (λ b. not (is_blank b)) (drop start text)) 0))
    ∙ not-false (is_blank (get_or (drop start text) (prefix_len (λ b. not (is_blank b)) (drop start text)) 0))
    (prefix_len_stops (λ b. not (is_blank b)) (drop start text) 0 (omega (arith, length-drop start text)))

-- if there is no next word, all bytes from `from` on are blanks
pub only_blanks : (text : List ℕ) (from start : ℕ) → start ≡ from + prefix_len is_blank (drop from text) → prefix_len (λ b. not (is_blank b)) (drop start text) ≡ 0
    → from ≤ length text → (i : ℕ) → from ≤ i → i < length text → is_blank (get_or text i 0) ≡ true
only_blanks text from start e none inside i after within =
    elim (cases_lt i start) [
      | inl before ↦ gap_is_blank text from start e i after before
      | inr past ↦
          let here : start < length text = omega arith in
          let blank = word_ends text start start (omega arith) here in
          let solid = ap (λ k. is_blank (get_or text k 0)) e
          ∙ ap is_blank (sym (get_or-drop from text (prefix_len is_blank (drop from text)) 0))
          ∙ prefix_len_stops is_blank (drop from text) 0 (omega (arith, length-drop from text)) in
          absurd (cc)
    ]

-- if `start..end` is the next word after `from`, no word ends after `from` but before `end`
pub earlier_word : (text : List ℕ) (from start end s e : ℕ) → end ≤ length text
    → ((i : ℕ) → from ≤ i → i < start → is_blank (get_or text i 0) ≡ true)
    → ((i : ℕ) → start ≤ i → i < end → is_blank (get_or text i 0) ≡ false)
    → IsWordAt text s e → e ≤ end → (e ≤ from) ⊎ (e ≡ end)
earlier_word text from start end s e inside gap solid w before =
    elim (cases_lt from e) [
      | inr early ↦ inl early
      | inl late ↦
          elim (cases_lt (e - 1) start) [
            | inl blank_there ↦
                let some = w.some in
                let blank = gap (e - 1) (omega arith) blank_there in
                let full = w.solid (e - 1) (omega arith) (omega arith) in
                absurd (cc)
            | inr reached ↦
                elim (cases_lt e end) [
                  | inr same ↦ inr (omega arith)
                  | inl shorter ↦
                      let some = w.some in
                      let full = solid e (omega arith) shorter in
                      let blank = w.after (omega arith) in
                      absurd (cc)
                ]
          ]
    ]

-- if only blanks follow `from`, and no blank stands directly before `from`, the text up to `from` is the text without
-- its trailing blanks
pub trimmed_at : (text : List ℕ) (from : ℕ) → from ≤ length text → ((i : ℕ) → from ≤ i → i < length text → is_blank (get_or text i 0) ≡ true)
    → (0 < from → is_blank (get_or text (from - 1) 0) ≡ false) → trim_end_matches is_blank text ≡ take from text
unfolding trim_end_matches
trimmed_at text from inside blanks solid =
    let size = suffix_len_is is_blank text from 0 inside blanks solid in
    ap (λ n. take n text) (omega (arith, size))

-- Let `end` be the end of the next word after `from`. If `P` is true of the end of every word that ends at or before
-- `from`, then `P` is true of the end of every word that ends before `end`.
pub accepted_before : (P : ℕ → Type 0) (text : List ℕ) (from start end : ℕ) → end ≤ length text
    → ((i : ℕ) → from ≤ i → i < start → is_blank (get_or text i 0) ≡ true)
    → ((i : ℕ) → start ≤ i → i < end → is_blank (get_or text i 0) ≡ false)
    → ((s e : ℕ) → IsWordAt text s e → e ≤ from → P e) → (s e : ℕ) → IsWordAt text s e → e < end → P e
accepted_before P text from start end inside gap solid so_far s e w before =
    elim (earlier_word text from start end s e inside gap solid w (omega arith)) [
      | inl early ↦ so_far s e w early
      | inr same ↦ absurd (omega arith)
    ]

-- Let `end` be the end of the next word after `from`. If `P` is true of `end` and of the end of every word that ends at
-- or before `from`, then `P` is true of the end of every word that ends at or before `end`.
pub accepted_up_to : (P : ℕ → Type 0) (text : List ℕ) (from start end : ℕ) → end ≤ length text
    → ((i : ℕ) → from ≤ i → i < start → is_blank (get_or text i 0) ≡ true)
    → ((i : ℕ) → start ≤ i → i < end → is_blank (get_or text i 0) ≡ false)
    → ((s e : ℕ) → IsWordAt text s e → e ≤ from → P e) → P end → (s e : ℕ) → IsWordAt text s e → e ≤ end → P e
accepted_up_to P text from start end inside gap solid so_far here s e w before =
    elim (earlier_word text from start end s e inside gap solid w before) [
      | inl early ↦ so_far s e w early
      | inr same ↦ subst (λ (k : ℕ). P k) (sym same) here
    ]

-- Suppose that only blanks follow `from`. Suppose also that `from` is 0, or that no blank stands directly before it and
-- the text up to it is valid. Then the text without its trailing blanks is empty or valid.
pub trimmed_valid : (valid : List ℕ → Bool) (text : List ℕ) (from : ℕ) → from ≤ length text → ((i : ℕ) → from ≤ i → i < length text → is_blank (get_or text i 0) ≡ true)
    → (0 < from → is_blank (get_or text (from - 1) 0) ≡ false) → (0 < from → valid (take from text) ≡ true)
    → true ≡ (length (trim_end_matches is_blank text) == 0) || valid (trim_end_matches is_blank text)
trimmed_valid valid text from inside blanks solid accepted =
    let trimmed = trimmed_at text from inside blanks solid in
    elim (cases_lt 0 from) [
      | inl some ↦
          let ok : valid (trim_end_matches is_blank text) ≡ true = ap valid trimmed ∙ accepted some in
          grind arith
      | inr none ↦
          let empty : length (trim_end_matches is_blank text) ≡ 0 = ap length trimmed ∙ length-take from text ∙ omega arith in
          grind (arith, nat_tests)
    ]
