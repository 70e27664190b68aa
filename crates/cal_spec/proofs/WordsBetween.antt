-- `words` returns the words of a text, the maximal runs of bytes that aren't blanks, as `AreWords` describes them.
use Rattle.std.proofs.Common.{ℕ, ◌<◌, ◌≡◌, Bool, true, false, cond, List, [], ◌∷◌, ◌++◌, length, refl, sym, ap, ◌∙◌, arith}
use Rattle.std.specs.Prelude.{filter, nat_lt}
use Rattle.std.specs.List.{list_all, list_any, slice_split, onto_first}
use Rattle.std.proofs.lemmas.Bool.{and_parts, and_from, or_from, lt-ltb}
use Rattle.std.proofs.lemmas.List.{append-nil}
use Rattle.cal_bytes.proofs.WordLemmas.{words-blank}
use Rattle.cal_spec.specs.rules.WordsOfText.{IsWord, Ends, AreWords}
use Rattle.cal_bytes.specs.rules.Separators.{is_blank, words}
use Rattle.cal_bytes.proofs.General.{some_piece, split_at, split_alone}

abbrev solid : List (List ℕ) → List (List ℕ)
solid pieces = filter (λ (t : List ℕ). nat_lt 0 (length t)) pieces

blank_before : (c : ℕ) (text : List ℕ) (ws : List (List ℕ)) → is_blank c ≡ true → AreWords text ws → AreWords (c ∷ text) ws
blank_before c text [] blank are = and_from (is_blank c) (list_all is_blank text) blank are
blank_before c text (w ∷ ws) blank are =
    (c ∷ are.0, are.1, ap (λ more. c ∷ more) are.2, and_from (is_blank c) (list_all is_blank are.0) blank are.3, are.4, are.5, are.6)

-- the text is `part`, which contains no blank, followed by `rest`, which is empty or begins with a blank; the words of
-- `rest` are the nonempty texts among `parts`
record Spread (text part : List ℕ) (parts : List (List ℕ)) : Type 0 where
  rest : List ℕ
  whole : text ≡ part ++ rest
  ends : Ends rest
  clear : list_any is_blank part ≡ false
  are : AreWords rest (solid parts)

words_by : (text part : List ℕ) (parts : List (List ℕ)) → Spread text part parts → AreWords text (solid (part ∷ parts))
words_by text [] parts spread = rw spread.whole spread.are
words_by text (b ∷ bs) parts spread =
    rw (lt-ltb 0 (length (b ∷ bs)) (omega arith)) ([], spread.rest, spread.whole, refl, record { some = omega arith; solid = spread.clear }, spread.ends, spread.are)

spread_solid : (x : ℕ) (xs : List ℕ) (pieces : List (List ℕ)) (part : List ℕ) (parts : List (List ℕ)) → is_blank x ≡ false → ((first : List ℕ) (more : List (List ℕ)) → pieces ≡ first ∷ more → Spread xs first more) → 0 < length pieces → onto_first x pieces ≡ part ∷ parts → Spread (x ∷ xs) part parts
spread_solid x xs [] part parts is rest some at = absurd (omega arith)
spread_solid x xs (first ∷ more) part parts is rest some at =
    let spread = rest first more refl in
    let one : x ∷ first ≡ part = cc in
    let two : more ≡ parts = cc in
    rw (← one, ← two) (record {
      rest = spread.rest;
      whole = ap (λ bs. x ∷ bs) spread.whole;
      ends = spread.ends;
      clear = or_from (is_blank x) (list_any is_blank first) is spread.clear;
      are = spread.are;
    })

spread_step : (x : ℕ) (xs part : List ℕ) (parts : List (List ℕ)) (test : Bool) → is_blank x ≡ test → ((first : List ℕ) (more : List (List ℕ)) → slice_split is_blank xs ≡ first ∷ more → Spread xs first more) → cond test ([] ∷ slice_split is_blank xs) (onto_first x (slice_split is_blank xs)) ≡ part ∷ parts → Spread (x ∷ xs) part parts
spread_step x xs part parts true is rest at =
    let some = some_piece is_blank xs in
    let one : [] ≡ part = cc in
    let two : slice_split is_blank xs ≡ parts = cc in
    let are = words_by xs some.0 some.1 (rest some.0 some.1 some.2) in
    rw (← one, ← two) (record {
      rest = x ∷ xs;
      whole = refl;
      ends = is;
      clear = refl;
      are = blank_before x xs (solid (slice_split is_blank xs)) is (rw some.2 are);
    })
spread_step x xs part parts false is rest at =
    let some = some_piece is_blank xs in
    let enough : 0 < length (slice_split is_blank xs) = rw some.2 (omega arith) in
    spread_solid x xs (slice_split is_blank xs) part parts is rest enough at

spread_of : (text part : List ℕ) (parts : List (List ℕ)) → slice_split is_blank text ≡ part ∷ parts → Spread text part parts
spread_of [] part parts at =
    let one : [] ≡ part = cc in
    let two : [] ≡ parts = cc in
    rw (← one, ← two) (record { rest = []; whole = refl; ends = tt; clear = refl; are = refl })
spread_of (x ∷ xs) part parts at = spread_step x xs part parts (is_blank x) refl (spread_of xs) at

pub words_found : (text : List ℕ) → AreWords text (words text)
unfolding words
words_found text =
    let some = some_piece is_blank text in
    rw some.2 (words_by text some.0 some.1 (spread_of text some.0 some.1 some.2))

-- ## Leading blanks don't change the words of a text, and a text of blanks has no words

words_lead : (lead text : List ℕ) → list_all is_blank lead ≡ true → words (lead ++ text) ≡ words text
words_lead [] text blanks = refl
words_lead (b ∷ bs) text blanks =
    let parts = and_parts (is_blank b) (list_all is_blank bs) blanks in
    words-blank b (bs ++ text) parts.0 ∙ words_lead bs text parts.1

words_none : (text : List ℕ) → list_all is_blank text ≡ true → words text ≡ []
unfolding words
words_none [] blanks = refl
words_none (b ∷ bs) blanks =
    let parts = and_parts (is_blank b) (list_all is_blank bs) blanks in
    words-blank b bs parts.0 ∙ words_none bs parts.1

words_first : (w rest : List ℕ) → IsWord w → Ends rest → words (w ++ rest) ≡ w ∷ words rest
unfolding words
words_first w [] word ends =
    rw (append-nil w, split_alone is_blank w word.solid, lt-ltb 0 (length w) word.some) refl
words_first w (b ∷ rest) word ends =
    rw (split_at is_blank w b rest word.solid ends, lt-ltb 0 (length w) word.some) (ap (λ more. w ∷ more) (sym (words-blank b rest ends)))

-- a list that satisfies `AreWords` is the list that `words` returns
pub words_only : (text : List ℕ) (ws : List (List ℕ)) → AreWords text ws → words text ≡ ws
words_only text [] blanks = words_none text blanks
words_only text (w ∷ ws) are =
    ap words are.2 ∙ words_lead are.0 (w ++ are.1) are.3 ∙ words_first w are.1 are.4 are.5 ∙ ap (λ more. w ∷ more) (words_only are.1 ws are.6)
