-- The pairs that `pairs_of` forms from words follow the rule `ArePairs`, and no other pairs do. Here a number is any
-- word of digits and decimal points, and a unit is any word of letters.
use Rattle.std.proofs.Common.{◌≡◌, ◌⊎◌, ◌&&◌, Bool, true, false, cond, List, [], ◌∷◌, Some, None, refl, sym, ap, ◌∙◌, inl, inr}
use Rattle.std.proofs.lemmas.Bool.{false≢true}
use Rattle.cal_span.specs.declared.span.word.CharKind.{CharKind}
use Rattle.cal_span.specs.declared.span.word.CharKind.TheVariants.{Numeric, Letter}
use Rattle.cal_span.proofs.SpanPairs.{no_kind, stray_first}
use Rattle.cal_span.proofs.SpanWords.{is_kind-same, same_from_is_kind}
use Rattle.cal_span.specs.rules.PairValue.{Piece, Pair, is_kind}
use Rattle.cal_span.specs.computed.SpanValue.{pairs_of}
use Rattle.cal_span.specs.rules.SpanRule.{BeginsWithNoUnit, IsWithUnit, IsWithoutUnit, IsNoNumber, ArePairs}

abbrev IsFirst : List Piece → Pair → List Piece → Type 0
IsFirst ws p rest = IsWithUnit ws p rest ⊎ (IsWithoutUnit ws p rest ⊎ IsNoNumber ws p rest)

another : (j k : CharKind) → is_kind j k ≡ false → k ≡ j → ⊥
another j k test same = false≢true (sym test ∙ ap (is_kind j) same ∙ is_kind-same j)

-- if no unit follows the word `w`, this word forms a pair by itself; the number of the pair is empty unless `w` is a
-- number
first_alone : (w : Piece) (ws : List Piece) (numeric : Bool) → is_kind Numeric w.kind ≡ numeric → BeginsWithNoUnit ws → IsFirst (w ∷ ws) (record { number = cond numeric w.text []; unit = None }) ws
first_alone w ws true test no_unit =
    inr (inl (record { number = w; words = refl; is_number = sym (same_from_is_kind Numeric w.kind test); no_unit = no_unit; pair = refl }))
first_alone w ws false test no_unit =
    inr (inr (record { word = w; words = refl; is_other = another Numeric w.kind test; pair = refl }))

-- if `pairs_of` follows the rule for `ws` and for `v ∷ ws`, it does so for `w ∷ v ∷ ws`, whether `v` is the unit of `w`
-- or not
first_of_two : (w v : Piece) (ws : List Piece) (numeric letter : Bool) → is_kind Numeric w.kind ≡ numeric → is_kind Letter v.kind ≡ letter → ArePairs ws (pairs_of ws) → ArePairs (v ∷ ws) (pairs_of (v ∷ ws)) → ArePairs (w ∷ v ∷ ws) (cond (numeric && letter) (record { number = cond numeric w.text []; unit = Some v.text } ∷ pairs_of ws) (record { number = cond numeric w.text []; unit = None } ∷ pairs_of (v ∷ ws)))
first_of_two w v ws true true n l two one =
    (ws, inl (record { number = w; unit = v; words = refl; is_number = sym (same_from_is_kind Numeric w.kind n); is_unit = sym (same_from_is_kind Letter v.kind l); pair = refl }), two)
first_of_two w v ws true false n l two one =
    (v ∷ ws, inr (inl (record { number = w; words = refl; is_number = sym (same_from_is_kind Numeric w.kind n); no_unit = another Letter v.kind l; pair = refl })), one)
first_of_two w v ws false letter n l two one =
    (v ∷ ws, inr (inr (record { word = w; words = refl; is_other = another Numeric w.kind n; pair = refl })), one)

pub are_pairs : (ws : List Piece) → ArePairs ws (pairs_of ws)
are_pairs [] = refl
are_pairs (w ∷ []) = ([], first_alone w [] (is_kind Numeric w.kind) refl tt, refl)
are_pairs (w ∷ v ∷ ws) =
    first_of_two w v ws (is_kind Numeric w.kind) (is_kind Letter v.kind) refl refl (are_pairs ws) (are_pairs (v ∷ ws))

-- ## If pairs follow the rule `ArePairs`, they are the pairs that `pairs_of` forms

pairs_with_unit : (w v : Piece) (ws : List Piece) → w.kind ≡ Numeric → v.kind ≡ Letter → pairs_of (w ∷ v ∷ ws) ≡ record { number = w.text; unit = Some v.text } ∷ pairs_of ws
pairs_with_unit w v ws n l = rw (n, l) refl

pairs_without_unit : (w : Piece) (ws : List Piece) → w.kind ≡ Numeric → BeginsWithNoUnit ws → pairs_of (w ∷ ws) ≡ record { number = w.text; unit = None } ∷ pairs_of ws
pairs_without_unit w [] n no_unit = rw n refl
pairs_without_unit w (v ∷ ws) n no_unit = rw (n, no_kind Letter v.kind no_unit) refl

by_first : (ws : List Piece) (p : Pair) (rest : List Piece) → IsFirst ws p rest → p ∷ pairs_of rest ≡ pairs_of ws
by_first ws p rest (inl h) = rw (h.words, h.pair) (sym (pairs_with_unit h.number h.unit rest h.is_number h.is_unit))
by_first ws p rest (inr (inl h)) = rw (h.words, h.pair) (sym (pairs_without_unit h.number rest h.is_number h.no_unit))
by_first ws p rest (inr (inr h)) = rw (h.words, h.pair) (sym (stray_first h.word rest (no_kind Numeric h.word.kind h.is_other)))

pub only_pairs : (ws : List Piece) (ps : List Pair) → ArePairs ws ps → ps ≡ pairs_of ws
only_pairs ws [] none = rw none refl
only_pairs ws (p ∷ ps) (rest, first, more) =
    ap (λ later. p ∷ later) (only_pairs rest ps more) ∙ by_first ws p rest first
