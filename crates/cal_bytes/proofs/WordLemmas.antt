-- Blanks and words, and the positions at which a text may be split without cutting a character in two.
use Rattle.std.proofs.Common.{ℕ, ◌+◌, ◌-◌, ◌<◌, ◌≤◌, ◌≡◌, Bool, true, false, cond, not, List, [], ◌∷◌, suc, length, get_or, take, drop, refl, ◌∙◌, arith, inl, inr, add-one, add-zero, drop-cons, length-drop}
use Rattle.std.specs.Str.{IsUtf8, IsCharBoundary}
use Rattle.std.specs.List.{list_any, prefix_len, suffix_len, position_or_len}
use Rattle.std.proofs.lemmas.Bool.{cases_lt, lt-ltb, not-true, not-false}
use Rattle.std.proofs.lemmas.Bool.Decides.{nat_tests}
use Rattle.std.proofs.lemmas.List.{get_or-drop, length-take, take_all, drop_all, get_or-reverse, length-reverse}
use Rattle.std.proofs.lemmas.List.Folds.{list_any_at, list_any_none}
use Rattle.std.proofs.lemmas.List.Sums.{prefix_len_passes, prefix_len_stops, prefix_len-le-length}
use Rattle.std.proofs.lemmas.List.Splits.{slice_split_first, slice_split_none}
use Rattle.std.proofs.lemmas.Str.{IsCharBoundary-end, IsCharBoundary-before_ascii, IsCharBoundary-after_ascii}
use Rattle.cal_bytes.specs.rules.Separators.{is_blank, words}
use Rattle.cal_bytes.specs.rules.Trim.{trim_start_matches}
use Rattle.cal_bytes.proofs.General.{boundary_at, in_suffix}
use Rattle.std.specs.Prelude.{reverse}

-- The next two lemmas are about the longest suffix whose bytes all pass `p`: the byte before this suffix doesn't pass,
-- and each byte of the suffix does.
before_suffix : (p : ℕ → Bool) (text : List ℕ) → suffix_len p text < length text → p (get_or text (length text - suffix_len p text - 1) 0) ≡ false
before_suffix p text within =
    let n = suffix_len p text in
    let there : n < length (reverse text) = omega (arith, length-reverse text) in
    let here : length text - 1 - n ≡ length text - n - 1 = omega arith in
    rw (← here, ← get_or-reverse text n 0 within) (prefix_len_stops p (reverse text) 0 there)

-- blanks are ASCII, so each is a single byte
pub blank_ascii : (b : ℕ) → is_blank b ≡ true → b < 128
blank_ascii b h = grind (arith, nat_tests)

pub word_boundary : (text : List ℕ) → IsUtf8 text → IsCharBoundary text (position_or_len is_blank text)
word_boundary text u =
    let n = position_or_len is_blank text in
    elim (cases_lt n (length text)) [
      | inl within ↦
          IsCharBoundary-before_ascii text n within (blank_ascii (get_or text n 0) (not-false (is_blank (get_or text n 0)) (prefix_len_stops (λ b. not (is_blank b)) text 0 within)))
      | inr past ↦
          boundary_at text (length text) n (omega (arith, prefix_len-le-length (λ b. not (is_blank b)) text)) (IsCharBoundary-end text)
    ]

abbrev pub is_solid : ℕ → Bool
is_solid b = not (is_blank b)

pub last_blank : (text : List ℕ) → suffix_len is_solid text < length text → is_blank (get_or text (length text - suffix_len is_solid text - 1) 0) ≡ true
last_blank text within =
    not-false (is_blank (get_or text (length text - suffix_len is_solid text - 1) 0)) (before_suffix is_solid text within)

pub last_word_boundary : (text : List ℕ) → IsUtf8 text → suffix_len is_solid text < length text → IsCharBoundary text (length text - suffix_len is_solid text)
last_word_boundary text u within =
    let start = length text - suffix_len is_solid text in
    let ascii = blank_ascii (get_or text (start - 1) 0) (last_blank text within) in
    boundary_at text (start - 1 + 1) start (omega arith) (IsCharBoundary-after_ascii text (start - 1) u (omega arith) ascii)

pub last_blank_boundary : (text : List ℕ) → suffix_len is_solid text < length text → IsCharBoundary text (length text - suffix_len is_solid text - 1)
last_blank_boundary text within =
    let start = length text - suffix_len is_solid text in
    IsCharBoundary-before_ascii text (start - 1) (omega arith) (blank_ascii (get_or text (start - 1) 0) (last_blank text within))

pub some_blank : (text : List ℕ) → suffix_len is_solid text < length text → list_any is_blank text ≡ true
some_blank text within =
    list_any_at is_blank text (length text - suffix_len is_solid text - 1) 0 (omega arith) (last_blank text within)

pub no_blank : (text : List ℕ) → suffix_len is_solid text ≡ length text → list_any is_blank text ≡ false
no_blank text all = list_any_none is_blank text (λ k d within. not-true (is_blank (get_or text k d)) (in_suffix is_solid text k d (omega arith) within))

-- ## Words

-- a leading blank doesn't change the words
pub words-blank : (b : ℕ) (text : List ℕ) → is_blank b ≡ true → words (b ∷ text) ≡ words text
unfolding words
words-blank b text blank = rw blank refl

drop_step : (b : ℕ) (text : List ℕ) (test : Bool) → is_blank b ≡ test → words (trim_start_matches is_blank text) ≡ words text → words (drop (cond test (1 + prefix_len is_blank text) 0) (b ∷ text)) ≡ words (b ∷ text)
unfolding trim_start_matches
drop_step b text true blank rest =
    let one : 1 + prefix_len is_blank text ≡ suc (prefix_len is_blank text) = omega arith in
    rw (one, words-blank b text blank) rest
drop_step b text false blank rest = refl

pub words-trim_start_matches : (text : List ℕ) → words (trim_start_matches is_blank text) ≡ words text
unfolding trim_start_matches
words-trim_start_matches [] = refl
words-trim_start_matches (b ∷ bs) = drop_step b bs (is_blank b) refl (words-trim_start_matches bs)

pub words-nil : words [] ≡ []
unfolding words
words-nil = refl

-- if a text doesn't begin with a blank but contains one, its first word is everything before the first blank, and its
-- other words are the words of the text after that blank
then_blank : (text : List ℕ) → 0 < position_or_len is_blank text → position_or_len is_blank text < length text
    → words text ≡ take (position_or_len is_blank text) text ∷ words (drop (position_or_len is_blank text + 1) text)
unfolding words
then_blank text some within =
    let n = position_or_len is_blank text in
    let long : length (take n text) ≡ n = omega (arith, length-take n text) in
    rw (slice_split_first is_blank text 0 within, lt-ltb 0 (length (take n text)) (omega arith)) refl

blank_dropped : (text : List ℕ) → position_or_len is_blank text < length text
    → words (drop (position_or_len is_blank text) text) ≡ words (drop (position_or_len is_blank text + 1) text)
blank_dropped text within =
    let n = position_or_len is_blank text in
    let blank = not-false (is_blank (get_or text n 0)) (prefix_len_stops is_solid text 0 within) in
    rw (drop-cons text n 0 within, add-one) (words-blank (get_or text n 0) (drop (suc n) text) blank)

to_the_end : (text : List ℕ) → 0 < length text → length text ≤ position_or_len is_blank text → words text ≡ text ∷ []
unfolding words
to_the_end text some past =
    rw (slice_split_none is_blank text (λ k d within. not-true (is_blank (get_or text k d)) (prefix_len_passes is_solid text k d (omega arith))), lt-ltb 0 (length text) some) refl

pub first_word : (text : List ℕ) → 0 < position_or_len is_blank text → words text ≡ take (position_or_len is_blank text) text ∷ words (drop (position_or_len is_blank text) text)
first_word text some =
    let n = position_or_len is_blank text in
    elim (cases_lt n (length text)) [
      | inl within ↦ rw blank_dropped (then_blank text some within)
      | inr past ↦
          to_the_end text (omega (arith, prefix_len-le-length is_solid text)) past
          ∙ rw (take_all n text past, drop_all n text past, words-nil) refl
    ]

-- a nonempty text without leading blanks begins with a word
begins_solid : (text : List ℕ) → 0 < length text → is_blank (get_or text 0 0) ≡ false → 0 < position_or_len is_blank text
begins_solid [] some solid = absurd (omega arith)
begins_solid (b ∷ bs) some solid = rw solid (omega arith)

pub begins_with_word : (text : List ℕ) → 0 < length (trim_start_matches is_blank text) → 0 < position_or_len is_blank (trim_start_matches is_blank text)
unfolding trim_start_matches
begins_with_word text some =
    let n = prefix_len is_blank text in
    let within : n < length text = omega (arith, length-drop n text) in
    begins_solid (trim_start_matches is_blank text) some (rw (get_or-drop n text 0 0, add-zero) (prefix_len_stops is_blank text 0 within))
