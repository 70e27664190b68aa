-- What the value of a time span is, stated as a rule and not as a computation: systemd.time(7), Parsing Time Spans. The
-- law `one_value`, a statement that is proved for all texts, says that the functions of `SpanValue` follow this rule.
-- The rule shares with them the characters of a text and the value of one pair (`PairValue`).
use Rattle.std.specs.Prelude.{ℕ, ◌⊎◌, ◌+◌, ◌<◌, ◌≤◌, ◌≡◌, ⊤, false, not, List, [], ◌∷◌, ◌++◌, length, filter, Some, None, Result, Ok, Err}
use Rattle.std.specs.List.{AllByRecursion, flat_map}
use Rattle.cal_span.specs.declared.span.fault.SpanFault.{SpanFault}
use Rattle.cal_span.specs.declared.span.fault.SpanFault.TheVariants.{Empty, TooLarge}
use Rattle.cal_span.specs.declared.span.word.CharKind.TheVariants.{Blank, Numeric, Letter}
use Rattle.cal_span.specs.rules.PairValue.{limit, Piece, Pair, characters, is_kind, worth_of}

-- ## Runs

-- `w` is the run of the characters `ss`: there is at least one character, all characters are of the kind of `w`, and
-- their texts joined are the text of `w`
pub record IsRun (ss : List Piece) (w : Piece) : Type 0 where
  pub some : 0 < length ss
  pub kinds : AllByRecursion (λ s. s.kind ≡ w.kind) ss
  pub text : w.text ≡ flat_map (λ s. s.text) ss

-- the characters in order make up these runs, and none are left over
abbrev pub AreRuns : List Piece → List Piece → Type 0
AreRuns ss [] = ss ≡ []
AreRuns ss (w ∷ ws) = (front : List Piece) × (rest : List Piece) × (ss ≡ front ++ rest) × IsRun front w × AreRuns rest ws

-- neighboring runs are of different kinds, so that none of them can be extended
abbrev pub AreApart : List Piece → Type 0
AreApart [] = ⊤
AreApart (w ∷ []) = ⊤
AreApart (w ∷ v ∷ ws) = (is_kind w.kind v.kind ≡ false) × AreApart (v ∷ ws)

-- ## Pairs
--
-- In this section, a number is any word of digits and decimal points, and a unit is any word of letters.

-- the words don't begin with a unit, that is, with a word of letters
abbrev pub BeginsWithNoUnit : List Piece → Type 0
BeginsWithNoUnit [] = ⊤
BeginsWithNoUnit (v ∷ ws) = v.kind ≡ Letter → ⊥

-- the words `ws` begin with a number and its unit, which form the pair `p`, and `rest` follows them
pub record IsWithUnit (ws : List Piece) (p : Pair) (rest : List Piece) : Type 0 where
  pub number : Piece
  pub unit : Piece
  pub words : ws ≡ number ∷ unit ∷ rest
  pub is_number : number.kind ≡ Numeric
  pub is_unit : unit.kind ≡ Letter
  pub pair : p ≡ record { number = number.text; unit = Some unit.text }

-- the words `ws` begin with a number that no unit follows; the number forms the pair `p`, and `rest` follows it
pub record IsWithoutUnit (ws : List Piece) (p : Pair) (rest : List Piece) : Type 0 where
  pub number : Piece
  pub words : ws ≡ number ∷ rest
  pub is_number : number.kind ≡ Numeric
  pub no_unit : BeginsWithNoUnit rest
  pub pair : p ≡ record { number = number.text; unit = None }

-- the words `ws` begin with a word that is not a number, and `rest` follows it; the word itself is dropped, so the pair
-- `p` has an empty number and no unit
pub record IsNoNumber (ws : List Piece) (p : Pair) (rest : List Piece) : Type 0 where
  pub word : Piece
  pub words : ws ≡ word ∷ rest
  pub is_other : word.kind ≡ Numeric → ⊥
  pub pair : p ≡ record { number = []; unit = None }

-- the words, from which blanks have been removed, form these pairs, and no word is left over
abbrev pub ArePairs : List Piece → List Pair → Type 0
ArePairs ws [] = ws ≡ []
ArePairs ws (p ∷ ps) = (rest : List Piece) × (IsWithUnit ws p rest ⊎ (IsWithoutUnit ws p rest ⊎ IsNoNumber ws p rest)) × ArePairs rest ps

-- ## Values

-- all pairs are valid, and n is the sum of their values
abbrev pub AreWorth : List Pair → ℕ → Type 0
AreWorth [] n = n ≡ 0
AreWorth (p ∷ ps) n = (m : ℕ) × (k : ℕ) × (worth_of p ≡ Ok m) × AreWorth ps k × (n ≡ m + k)

-- the pair `p`, which comes after pairs whose values add up to `sum`, fails with this error: either it is the error of
-- `p` itself, or `sum` plus the value of `p` is more than the limit (`TooLarge`)
abbrev pub IsFaultAfter : ℕ → Pair → SpanFault → Type 0
IsFaultAfter sum p TooLarge = (m : ℕ) × (worth_of p ≡ Ok m) × (limit < sum + m)
IsFaultAfter sum p fault = worth_of p ≡ Err fault

-- one of the pairs fails with this error; all pairs before it are valid, and their sum doesn't exceed the limit
abbrev pub IsFirstFault : List Pair → SpanFault → Type 0
IsFirstFault ps fault =
    (before : List Pair) × (p : Pair) × (after : List Pair) × (sum : ℕ) × (ps ≡ before ++ (p ∷ after)) × AreWorth before sum × (sum ≤ limit) × IsFaultAfter sum p fault

-- The value or the error that the rule demands for these pairs. A value is the sum of all pairs; there is at least one
-- pair, and the sum doesn't exceed the limit. The error is `Empty` if there are no pairs, and otherwise the error of
-- the leftmost pair that is invalid or takes the sum over the limit (`TooLarge`).
abbrev pub Judges : List Pair → Result ℕ SpanFault → Type 0
Judges ps (Ok n) = (0 < length ps) × AreWorth ps n × (n ≤ limit)
Judges ps (Err Empty) = ps ≡ []
Judges ps (Err fault) = IsFirstFault ps fault

-- ## Texts

-- The characters of the text make up runs, each as long as possible. Without the runs of blanks, these runs form the
-- pairs `pairs`.
pub record HasPairs (text : List ℕ) (pairs : List Pair) : Type 0 where
  pub runs : List Piece
  pub cut : AreRuns (characters text) runs
  pub apart : AreApart runs
  pub paired : ArePairs (filter (λ w. not (is_kind Blank w.kind)) runs) pairs

-- the text, read as a time span, has this value in microseconds (`Ok`) or this error (`Err`)
pub record HasSpanValue (text : List ℕ) (result : Result ℕ SpanFault) : Type 0 where
  pub pairs : List Pair
  pub has : HasPairs text pairs
  pub judged : Judges pairs result
