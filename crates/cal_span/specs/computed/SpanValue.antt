-- The value of a time span (systemd.time(7), Parsing Time Spans). The text is split into words, the words form pairs of
-- a number and a unit, and the values of the pairs are added up from the left until a pair is invalid or takes the sum
-- over the limit.
use Rattle.std.specs.Prelude.{ℕ, ◌+◌, nat_le, Bool, not, ◌&&◌, if◌then◌else◌, List, [], ◌∷◌, ◌++◌, filter, Some, None, Result, Ok, Err}
use Rattle.cal_span.specs.declared.span.fault.SpanFault.{SpanFault}
use Rattle.cal_span.specs.declared.span.fault.SpanFault.TheVariants.{Empty, TooLarge}
use Rattle.cal_span.specs.declared.span.word.CharKind.{CharKind}
use Rattle.cal_span.specs.declared.span.word.CharKind.TheVariants.{Blank, Numeric, Letter}
use Rattle.cal_bytes.specs.rules.AndThen.{◌>>=◌}
use Rattle.cal_span.specs.rules.PairValue.{Pair, Piece, characters, is_kind, limit, worth_of}

-- ## Words; blanks may come before, between and after them (systemd.time(7), Parsing Time Spans)

-- puts a piece of one character in front of runs: if the first run is of the same kind, it is extended by the
-- character; otherwise the piece becomes a run of its own
abbrev pub with_front : Piece → List Piece → List Piece
with_front s [] = s ∷ []
with_front s (w ∷ ws) =
    if is_kind s.kind w.kind then record { kind = s.kind; text = s.text ++ w.text } ∷ ws
    else s ∷ w ∷ ws

-- the characters, joined into runs of one kind, each as long as possible
abbrev pub runs : List Piece → List Piece
runs [] = []
runs (s ∷ ss) = with_front s (runs ss)

-- the words of a text: its runs except for those of blanks
unfoldable pub words_in : List ℕ → List Piece
words_in bytes = filter (λ w. not (is_kind Blank w.kind)) (runs (characters bytes))

-- ## Pairs (systemd.time(7), Parsing Time Spans)

-- the number of a pair that begins with this word: the word itself if it consists of digits and decimal points, and
-- empty otherwise
abbrev pub numeral_in : Piece → List ℕ
numeral_in w = if is_kind Numeric w.kind then w.text else []

-- whether the first word consists of digits and decimal points and the second of letters, so that the second word is
-- the unit of the first
abbrev pub is_unit_of : Piece → Piece → Bool
is_unit_of w v = is_kind Numeric w.kind && is_kind Letter v.kind

-- A number and the unit after it, if any, form a pair. If a word of another kind stands where a number is expected,
-- this word forms a pair with an empty number.
abbrev pub pairs_of : List Piece → List Pair
pairs_of [] = []
pairs_of (w ∷ []) = record { number = numeral_in w; unit = None } ∷ []
pairs_of (w ∷ v ∷ ws) =
    if is_unit_of w v then record { number = numeral_in w; unit = Some v.text } ∷ pairs_of ws
    else record { number = numeral_in w; unit = None } ∷ pairs_of (v ∷ ws)

unfoldable pub pairs_in : List ℕ → List Pair
pairs_in bytes = pairs_of (words_in bytes)

-- ## The value of a time span (systemd.time(7), Parsing Time Spans)

-- the sum plus the value of one more pair, or the error of that pair, which is `TooLarge` if the new sum is more than
-- the limit
abbrev pub sum_with : ℕ → Result ℕ SpanFault → Result ℕ SpanFault
sum_with sum worth = worth >>= λ m. if nat_le (sum + m) limit then Ok (sum + m) else Err TooLarge

-- the sum so far plus the values of the remaining pairs, or the error of the leftmost pair that has one
abbrev pub judged : ℕ → List Pair → Result ℕ SpanFault
judged sum [] = Ok sum
judged sum (p ∷ ps) = sum_with sum (worth_of p) >>= λ more. judged more ps

-- the sum of the values of the pairs, or the error of the leftmost pair that has one; without pairs, the error is
-- `Empty`
abbrev pub value_of_pairs : List Pair → Result ℕ SpanFault
value_of_pairs [] = Err Empty
value_of_pairs (p ∷ ps) = judged 0 (p ∷ ps)

-- the value of a time span in microseconds, or its error
unfoldable pub span_of : List ℕ → Result ℕ SpanFault
span_of text = value_of_pairs (pairs_in text)

-- the text of the longest prefix whose characters are all of this kind
abbrev pub front_of : CharKind → List Piece → List ℕ
front_of kind [] = []
front_of kind (s ∷ ss) = if is_kind kind s.kind then s.text ++ front_of kind ss else []

-- the characters after the longest prefix of this kind
abbrev pub after_front : CharKind → List Piece → List Piece
after_front kind [] = []
after_front kind (s ∷ ss) = if is_kind kind s.kind then after_front kind ss else s ∷ ss
