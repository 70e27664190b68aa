-- Parsing a printed span gives the same span: the text is split into its counts again, the value of each count is its
-- number times the length of its unit, and these values add up to the span.
use Rattle.std.proofs.Common.{◌≡◌, ℕ, zero, suc, ◌+◌, ◌*◌, ◌^◌, ◌<◌, ◌≤◌, List, [], ◌∷◌, ◌++◌, codes, length, Some, Ok, map, refl, sym, ap, ◌∙◌, subst, lit<, arith}
use Rattle.std.proofs.lemmas.Bool.{le-leb}
use Rattle.std.proofs.lemmas.Fmt.{decimal_nonempty}
use Rattle.std.proofs.lemmas.List.{append_assoc, append-nil}
use Rattle.std.proofs.lemmas.Bool.Decides.{nat_tests}
use Rattle.std.proofs.Math.Nat.{le-mul_of_pos_right}
use Rattle.std.specs.List.{flat_map}
use Rattle.std.specs.Prelude.{decimal, not, filter}
use Rattle.cal_span.specs.declared.time_unit.TimeUnit.{TimeUnit}
use Rattle.cal_span.specs.declared.time_unit.TimeUnit.TheVariants.{Year, Month, Week, Day, Hour, Minute, Second, Millisecond, Microsecond}
use Rattle.cal_span.specs.declared.span.word.CharKind.{CharKind}
use Rattle.cal_span.specs.declared.span.word.CharKind.TheVariants.{Blank, Numeric, Letter}
use Rattle.cal_span.specs.rules.UnitSpellings.{spellings_of}
use Rattle.cal_span.specs.rules.TimeUnit.{size_of, all_units, unit_name}
use Rattle.cal_span.specs.rules.PairValue.{limit, kind_of, is_kind, Piece, characters, Pair, is_number, unit_named, number_worth, worth_of}
use Rattle.cal_span.specs.computed.SpanValue.{with_front, runs, words_in, pairs_of, pairs_in, judged, value_of_pairs, span_of}
use Rattle.cal_span.specs.rules.SpanTextRule.{weight}
use Rattle.cal_span.specs.rules.SpanText.{Count, count_text, counts_in_row, positive, counts_of, span_text}
use Rattle.cal_span.proofs.SpanCounts.{size_of_positive, are_counts_of, weight-positive, span_text_zero, span_text_row}
use Rattle.cal_span.proofs.SpanDigits.{AreDigits, are_digits-decimal, kind_of_digit, is_number-decimal, number_worth-decimal}
use Rattle.cal_span.proofs.SpanWords.{is_kind-same}
use Rattle.cal_span.proofs.SpanRuns.{BeginsApart}

-- ## The words of printed counts

-- a byte below 128 is a character of its own
characters-ascii : (b : ℕ) (bytes : List ℕ) → b < 128 → characters (b ∷ bytes) ≡ record { kind = kind_of b; text = b ∷ [] } ∷ characters bytes
characters-ascii b [] small = refl
characters-ascii b (c ∷ bytes) small = grind (arith, nat_tests)

-- each byte is an ASCII character of this kind
abbrev pub AllOfKind : CharKind → List ℕ → Type 0
AllOfKind kind [] = Unit {0}
AllOfKind kind (b ∷ bytes) = (b < 128) × (kind_of b ≡ kind) × AllOfKind kind bytes

with_front-apart : (kind : CharKind) (text : List ℕ) (ps : List Piece) → BeginsApart kind ps → with_front (record { kind = kind; text = text }) ps ≡ record { kind = kind; text = text } ∷ ps
with_front-apart kind text [] apart = refl
with_front-apart kind text (p ∷ ps) apart = rw apart refl

with_front-same : (kind : CharKind) (b : ℕ) (text : List ℕ) (ps : List Piece) → with_front (record { kind = kind; text = b ∷ [] }) (record { kind = kind; text = text } ∷ ps) ≡ record { kind = kind; text = b ∷ text } ∷ ps
with_front-same kind b text ps = rw (is_kind-same kind) refl

-- bytes of one kind are one run if either nothing or a run of another kind follows them
pub runs-of_kind : (kind : CharKind) (b : ℕ) (front rest : List ℕ) → AllOfKind kind (b ∷ front) → BeginsApart kind (runs (characters rest)) → runs (characters ((b ∷ front) ++ rest)) ≡ record { kind = kind; text = b ∷ front } ∷ runs (characters rest)
runs-of_kind kind b [] rest same apart = grind (arith, nat_tests, characters-ascii, with_front-apart)
runs-of_kind kind b (c ∷ front) rest same apart =
    grind (arith, nat_tests, characters-ascii, with_front-same, runs-of_kind kind c front rest same.2 apart)

runs-of_kind_front : (kind : CharKind) (front rest : List ℕ) → 0 < length front → AllOfKind kind front → BeginsApart kind (runs (characters rest)) → runs (characters (front ++ rest)) ≡ record { kind = kind; text = front } ∷ runs (characters rest)
runs-of_kind_front kind [] rest some same apart = absurd (omega arith)
runs-of_kind_front kind (b ∷ front) rest some same apart = runs-of_kind kind b front rest same apart

numeric_digits : (ds : List ℕ) → AreDigits ds → AllOfKind Numeric ds
numeric_digits [] h = tt
numeric_digits (c ∷ cs) h = (h.0.ascii, kind_of_digit c h.0, numeric_digits cs h.1)

letters-unit_name : (unit : TimeUnit) → AllOfKind Letter (unit_name unit)
unfolding unit_name
letters-unit_name Year = (lit< tt, refl, tt)
letters-unit_name Month = (lit< tt, refl, (lit< tt, refl, (lit< tt, refl, (lit< tt, refl, (lit< tt, refl, tt)))))
letters-unit_name Week = (lit< tt, refl, tt)
letters-unit_name Day = (lit< tt, refl, tt)
letters-unit_name Hour = (lit< tt, refl, tt)
letters-unit_name Minute = (lit< tt, refl, (lit< tt, refl, (lit< tt, refl, tt)))
letters-unit_name Second = (lit< tt, refl, tt)
letters-unit_name Millisecond = (lit< tt, refl, (lit< tt, refl, tt))
letters-unit_name Microsecond = (lit< tt, refl, (lit< tt, refl, tt))

name_of_nonempty : (unit : TimeUnit) → 0 < length (unit_name unit)
unfolding unit_name
name_of_nonempty Year = lit< tt
name_of_nonempty Month = lit< tt
name_of_nonempty Week = lit< tt
name_of_nonempty Day = lit< tt
name_of_nonempty Hour = lit< tt
name_of_nonempty Minute = lit< tt
name_of_nonempty Second = lit< tt
name_of_nonempty Millisecond = lit< tt
name_of_nonempty Microsecond = lit< tt

-- the words of printed counts: for each count, its digits and then its unit
abbrev pub count_words : List Count → List Piece
count_words [] = []
count_words (c ∷ cs) =
    record { kind = Numeric; text = decimal c.number } ∷ record { kind = Letter; text = unit_name c.unit } ∷ count_words cs

-- if the number of a count is below 2 ^ 64, and no letter follows the printed count, then the printed count is two
-- runs: the digits of the number, and the unit
runs-count : (c : Count) (rest : List ℕ) → c.number < 2 ^ 64 → BeginsApart Letter (runs (characters rest)) → runs (characters (count_text c ++ rest)) ≡ record { kind = Numeric; text = decimal c.number } ∷ record { kind = Letter; text = unit_name c.unit } ∷ runs (characters rest)
runs-count c rest small apart =
    let unit = runs-of_kind_front Letter (unit_name c.unit) rest (name_of_nonempty c.unit) (letters-unit_name c.unit) apart in
    let grouped : count_text c ++ rest ≡ decimal c.number ++ (unit_name c.unit ++ rest) = append_assoc (decimal c.number) (unit_name c.unit ++ []) rest ∙ ap (λ (name : List ℕ). decimal c.number ++ (name ++ rest)) (append-nil (unit_name c.unit)) in
    ap (λ (bytes : List ℕ). runs (characters bytes)) grouped
    ∙ runs-of_kind_front Numeric (decimal c.number) (unit_name c.unit ++ rest) (decimal_nonempty c.number small) (numeric_digits (decimal c.number) (are_digits-decimal c.number small)) (subst (BeginsApart Numeric) (sym unit) refl)
    ∙ ap (λ (ps : List Piece). record { kind = Numeric; text = decimal c.number } ∷ ps) unit

small_number : (c : Count) (cs : List Count) → weight (c ∷ cs) ≤ limit → c.number < 2 ^ 64
small_number c cs within = omega (arith, le-mul_of_pos_right c.number (size_of_positive c.unit))

-- the text of counts with a space before each of them
abbrev spaced : List Count → List ℕ
spaced = flat_map (λ c. codes " " ++ count_text c)

abbrev spaced_runs : List Count → List Piece
spaced_runs [] = []
spaced_runs (c ∷ cs) =
    record { kind = Blank; text = codes " " } ∷ record { kind = Numeric; text = decimal c.number } ∷ record { kind = Letter; text = unit_name c.unit } ∷ spaced_runs cs

spaced_runs-apart : (cs : List Count) → BeginsApart Letter (spaced_runs cs)
spaced_runs-apart [] = tt
spaced_runs-apart (c ∷ cs) = refl

runs-spaced : (cs : List Count) → weight cs ≤ limit → runs (characters (spaced cs)) ≡ spaced_runs cs
runs-spaced [] within = refl
runs-spaced (c ∷ cs) within =
    let others = runs-spaced cs (omega arith) in
    let first = runs-count c (spaced cs) (small_number c cs within) (subst (BeginsApart Letter) (sym others) (spaced_runs-apart cs)) in
    runs-of_kind Blank 32 [] (count_text c ++ spaced cs) (lit< tt, refl, tt) (subst (BeginsApart Blank) (sym first) refl)
    ∙ ap (λ (ps : List Piece). record { kind = Blank; text = codes " " } ∷ ps) first
    ∙ ap (λ (ps : List Piece). record { kind = Blank; text = codes " " } ∷ record { kind = Numeric; text = decimal c.number } ∷ record { kind = Letter; text = unit_name c.unit } ∷ ps) others

words-spaced : (cs : List Count) → filter (λ w. not (is_kind Blank w.kind)) (spaced_runs cs) ≡ count_words cs
words-spaced [] = refl
words-spaced (c ∷ cs) = grind (arith, nat_tests, words-spaced cs)

words-row : (c : Count) (cs : List Count) → weight (c ∷ cs) ≤ limit → words_in (counts_in_row (c ∷ cs)) ≡ count_words (c ∷ cs)
unfolding words_in counts_in_row
words-row c cs within =
    let others = runs-spaced cs (omega arith) in
    let first = runs-count c (spaced cs) (small_number c cs within) (subst (BeginsApart Letter) (sym others) (spaced_runs-apart cs)) in
    ap (filter (λ w. not (is_kind Blank w.kind))) first
    ∙ ap (λ (ps : List Piece). record { kind = Numeric; text = decimal c.number } ∷ record { kind = Letter; text = unit_name c.unit } ∷ filter (λ w. not (is_kind Blank w.kind)) ps) others
    ∙ ap (λ (ps : List Piece). record { kind = Numeric; text = decimal c.number } ∷ record { kind = Letter; text = unit_name c.unit } ∷ ps) (words-spaced cs)

-- ## The pairs of printed counts, and their values

abbrev pub pair_of : Count → Pair
pair_of c = record { number = decimal c.number; unit = Some (unit_name c.unit) }

pairs-count_words : (cs : List Count) → pairs_of (count_words cs) ≡ map pair_of cs
pairs-count_words [] = refl
pairs-count_words (c ∷ cs) = ap (λ (ps : List Pair). pair_of c ∷ ps) (pairs-count_words cs)

unit_named-unit_name : (unit : TimeUnit) → unit_named (unit_name unit) ≡ Some unit
unfolding unit_named spellings_of unit_name
unit_named-unit_name Year = refl
unit_named-unit_name Month = refl
unit_named-unit_name Week = refl
unit_named-unit_name Day = refl
unit_named-unit_name Hour = refl
unit_named-unit_name Minute = refl
unit_named-unit_name Second = refl
unit_named-unit_name Millisecond = refl
unit_named-unit_name Microsecond = refl

worth-pair_of : (c : Count) → c.number < 2 ^ 64 → worth_of (pair_of c) ≡ Ok (c.number * size_of c.unit)
unfolding worth_of
worth-pair_of c small = grind (arith, nat_tests, is_number-decimal, unit_named-unit_name, number_worth-decimal)

judged-counts : (sum : ℕ) (cs : List Count) → sum + weight cs ≤ limit → judged sum (map pair_of cs) ≡ Ok (sum + weight cs)
judged-counts sum [] within = ap Ok (omega arith)
judged-counts sum (c ∷ cs) within =
    grind (arith, nat_tests, worth-pair_of, small_number, le-leb, judged-counts (sum + c.number * size_of c.unit) cs (omega arith))

-- ## The value of a printed span, and of a number without a unit

span_of-row : (cs : List Count) → 0 < weight cs → weight cs ≤ limit → span_of (counts_in_row cs) ≡ Ok (weight cs)
unfolding span_of pairs_in
span_of-row [] some within = absurd (omega arith)
span_of-row (c ∷ cs) some within =
    ap (λ (ws : List Piece). value_of_pairs (pairs_of ws)) (words-row c cs within)
    ∙ ap value_of_pairs (pairs-count_words (c ∷ cs))
    ∙ judged-counts 0 (c ∷ cs) (omega arith)
    ∙ ap Ok (omega arith)

span_of_zero : span_of (codes "0") ≡ Ok 0
unfolding span_of pairs_in words_in worth_of is_number number_worth
span_of_zero = refl

-- the digits of a number below 2 ^ 64 are one word
words-decimal : (n : ℕ) → n < 2 ^ 64 → words_in (decimal n) ≡ record { kind = Numeric; text = decimal n } ∷ []
unfolding words_in
words-decimal n small =
    let digits = numeric_digits (decimal n) (are_digits-decimal n small) in
    ap (λ (bytes : List ℕ). filter (λ w. not (is_kind Blank w.kind)) (runs (characters bytes))) (sym (append-nil (decimal n)))
    ∙ ap (filter (λ w. not (is_kind Blank w.kind))) (runs-of_kind_front Numeric (decimal n) [] (decimal_nonempty n small) digits tt)

pub span_of-decimal : (n : ℕ) → n * 1_000_000 ≤ limit → span_of (decimal n) ≡ Ok (n * 1_000_000)
unfolding span_of pairs_in worth_of
span_of-decimal n within =
    let small : n < 2 ^ 64 = omega arith in
    ap (λ (ws : List Piece). value_of_pairs (pairs_of ws)) (words-decimal n small)
    ∙ rw (is_number-decimal n small, number_worth-decimal n 1_000_000 small, le-leb (0 + n * 1_000_000) limit (omega arith)) (ap Ok (omega arith))

pub span_of-span_text : (n : ℕ) → n ≤ limit → span_of (span_text n) ≡ Ok n
span_of-span_text zero within = ap span_of span_text_zero ∙ span_of_zero
span_of-span_text (suc m) within =
    let whole : weight (positive (counts_of all_units (suc m))) ≡ suc m = weight-positive (counts_of all_units (suc m)) ∙ (are_counts_of (suc m)).sum in
    ap span_of (sym (span_text_row (suc m) (omega arith)))
    ∙ span_of-row (positive (counts_of all_units (suc m))) (omega (arith, whole)) (omega (arith, whole))
    ∙ ap Ok whole
