-- Lemmas that find the first word of a time span from the runs of its characters.
use Rattle.std.proofs.Common.{ℕ, ◌+◌, ◌≡◌, ◌≤◌, length, take, drop, Bool, true, false, cond, List, [], ◌∷◌, ◌++◌, refl, sym, ap, ◌∙◌, arith}
use Rattle.std.specs.Prelude.{filter, not}
use Rattle.std.proofs.lemmas.List.{append-nil, drop-drop, length-append, length-take-le}
use Rattle.cal_span.specs.declared.span.word.CharKind.{CharKind}
use Rattle.cal_span.specs.declared.span.word.CharKind.TheVariants.{Blank, Numeric, Letter, Other}
use Rattle.cal_span.specs.rules.PairValue.{Piece, is_kind, characters}
use Rattle.cal_span.specs.computed.SpanValue.{runs, words_in, front_of, after_front}
use Rattle.std.proofs.lemmas.Bool.Decides.{nat_tests}

pub is_kind-same : (j : CharKind) → is_kind j j ≡ true
is_kind-same Blank = refl
is_kind-same Numeric = refl
is_kind-same Letter = refl
is_kind-same Other = refl

pub same_from_is_kind : (j k : CharKind) → is_kind j k ≡ true → j ≡ k
same_from_is_kind Blank Blank e = refl
same_from_is_kind Blank Numeric e = cc
same_from_is_kind Blank Letter e = cc
same_from_is_kind Blank Other e = cc
same_from_is_kind Numeric Blank e = cc
same_from_is_kind Numeric Numeric e = refl
same_from_is_kind Numeric Letter e = cc
same_from_is_kind Numeric Other e = cc
same_from_is_kind Letter Blank e = cc
same_from_is_kind Letter Numeric e = cc
same_from_is_kind Letter Letter e = refl
same_from_is_kind Letter Other e = cc
same_from_is_kind Other Blank e = cc
same_from_is_kind Other Numeric e = cc
same_from_is_kind Other Letter e = cc
same_from_is_kind Other Other e = refl

abbrev pub without_blanks : List Piece → List Piece
without_blanks ws = filter (λ (w : Piece). not (is_kind Blank w.kind)) ws

-- Let `s` and `t` be the first two characters. If `runs_first` holds for the characters from `t` on, then it also holds
-- for the characters from `s` on, whether `s` and `t` are of the same kind or not.
runs_second : (s t : Piece) (ss : List Piece) (same : Bool) → is_kind s.kind t.kind ≡ same → runs (t ∷ ss) ≡ record { kind = t.kind; text = t.text ++ front_of t.kind ss } ∷ runs (after_front t.kind ss) → cond same (record { kind = s.kind; text = s.text ++ (t.text ++ front_of t.kind ss) } ∷ runs (after_front t.kind ss)) (s ∷ record { kind = t.kind; text = t.text ++ front_of t.kind ss } ∷ runs (after_front t.kind ss)) ≡ record { kind = s.kind; text = s.text ++ cond same (t.text ++ front_of s.kind ss) [] } ∷ runs (cond same (after_front s.kind ss) (t ∷ ss))
runs_second s t ss true test by_rest = grind (arith, nat_tests, same_from_is_kind)
runs_second s t ss false test by_rest = rw append-nil (ap (λ ws. s ∷ ws) (sym by_rest))

-- the first run is the longest prefix of characters of the first character's kind, and the other runs are those of the
-- characters after this prefix
pub runs_first : (s : Piece) (ss : List Piece) → runs (s ∷ ss) ≡ record { kind = s.kind; text = s.text ++ front_of s.kind ss } ∷ runs (after_front s.kind ss)
runs_first s [] = rw append-nil refl
runs_first s (t ∷ ss) = grind (arith, nat_tests, runs_second, runs_first t ss)

-- Let `rest` be the bytes from index `len` on. If the first character of `rest` is of the kind `kind`, then the longest
-- prefix of `rest` that has only characters of this kind consists of this character and the longest such prefix of the
-- bytes after it.
pub front_more : (kind : CharKind) (bytes : List ℕ) (len width : ℕ) (rest : List ℕ) → rest ≡ drop len bytes → characters rest ≡ record { kind = kind; text = take width rest } ∷ characters (drop width rest) → front_of kind (characters (drop len bytes)) ≡ take width (drop len bytes) ++ front_of kind (characters (drop (len + width) bytes))
front_more kind bytes len width rest at first = grind (arith, nat_tests, is_kind-same, drop-drop)

-- if the first character of `rest` is of this kind, the longest prefix of `rest` that has only characters of this kind
-- ends at the same byte as the longest such prefix of the bytes after this character
pub after_more : (kind : CharKind) (bytes : List ℕ) (len width : ℕ) (rest : List ℕ) → rest ≡ drop len bytes → characters rest ≡ record { kind = kind; text = take width rest } ∷ characters (drop width rest) → after_front kind (characters (drop len bytes)) ≡ after_front kind (characters (drop (len + width) bytes))
after_more kind bytes len width rest at first = grind (arith, nat_tests, is_kind-same, drop-drop)

-- leaving out leading blanks doesn't change the runs that are not blanks
without_blanks_first : (s : Piece) (ss : List Piece) (blank : Bool) → is_kind Blank s.kind ≡ blank → without_blanks (runs (s ∷ ss)) ≡ without_blanks (runs (cond blank (after_front Blank ss) (s ∷ ss)))
without_blanks_first s ss true test = grind (arith, nat_tests, same_from_is_kind, runs_first)
without_blanks_first s ss false test = refl

without_blanks_after : (ss : List Piece) → without_blanks (runs ss) ≡ without_blanks (runs (after_front Blank ss))
without_blanks_after [] = refl
without_blanks_after (s ∷ ss) = without_blanks_first s ss (is_kind Blank s.kind) refl

-- the first character after the leading blanks is not a blank (the induction step)
after_blanks_step : (t : Piece) (ts : List Piece) (s : Piece) (rest : List Piece) (blank : Bool) → is_kind Blank t.kind ≡ blank → (after_front Blank ts ≡ s ∷ rest → is_kind Blank s.kind ≡ false) → cond blank (after_front Blank ts) (t ∷ ts) ≡ s ∷ rest → is_kind Blank s.kind ≡ false
after_blanks_step t ts s rest true test further at = further at
after_blanks_step t ts s rest false test further at = grind (arith, nat_tests)

after_blanks : (ss : List Piece) (s : Piece) (rest : List Piece) → after_front Blank ss ≡ s ∷ rest → is_kind Blank s.kind ≡ false
after_blanks [] s rest at = cc
after_blanks (t ∷ ts) s rest at = grind (arith, nat_tests, after_blanks_step, after_blanks ts s rest)

-- if `s` is the first character that is not a blank, the first word is `s` and all characters of the same kind that
-- follow it directly, and the other words are those of the characters after this word
word_first : (ss : List Piece) (s : Piece) (rest : List Piece) → after_front Blank ss ≡ s ∷ rest → without_blanks (runs ss) ≡ record { kind = s.kind; text = front_of s.kind (s ∷ rest) } ∷ without_blanks (runs (after_front s.kind (s ∷ rest)))
word_first ss s rest at = grind (arith, nat_tests, after_blanks, without_blanks_after, runs_first, is_kind-same)

-- Let `solid` be the bytes after the leading blanks, `text` the longest prefix of `solid` that has only characters of
-- one kind, and `rest` the bytes after `text`. Then the first word is `text`, and the words of `rest` follow it.
pub first_word_is : (bytes solid : List ℕ) (kind : CharKind) (width : ℕ) (text rest : List ℕ) → characters solid ≡ after_front Blank (characters bytes) → characters solid ≡ record { kind = kind; text = take width solid } ∷ characters (drop width solid) → text ≡ front_of kind (characters solid) → characters rest ≡ after_front kind (characters solid) → words_in bytes ≡ record { kind = kind; text = text } ∷ words_in rest
unfolding words_in
first_word_is bytes solid kind width text rest at first front after =
    let by_front = word_first (characters bytes) _ _ (sym at ∙ first) in
    by_front ∙ ap (λ (ts : List Piece). record { kind = kind; text = front_of kind ts } ∷ without_blanks (runs (after_front kind ts))) (sym first) ∙ ap (λ (t : List ℕ). record { kind = kind; text = t } ∷ without_blanks (runs (after_front kind (characters solid)))) (sym front) ∙ ap (λ (ts : List Piece). record { kind = kind; text = text } ∷ without_blanks (runs ts)) (sym after)

-- a word is at least as long as its first character
pub word_length : (solid : List ℕ) (kind : CharKind) (width : ℕ) (text : List ℕ) → characters solid ≡ record { kind = kind; text = take width solid } ∷ characters (drop width solid) → text ≡ front_of kind (characters solid) → width ≤ length solid → width ≤ length text
word_length solid kind width text first front fits = grind (arith, nat_tests, is_kind-same, length-append, length-take-le)

pub no_word_is : (bytes solid : List ℕ) → characters solid ≡ after_front Blank (characters bytes) → solid ≡ [] → words_in bytes ≡ []
unfolding words_in
no_word_is bytes solid at none =
    without_blanks_after (characters bytes) ∙ ap (λ ts. without_blanks (runs ts)) (sym at ∙ ap characters none)
