-- How long it is until an instant, or how long ago it was.
use Rattle.std.specs.Prelude.{ℕ, ◌*◌, ℤ, ◌-ℤ◌, unsigned_abs, int_le, List, [], ◌∷◌, ◌++◌, codes, if◌then◌else◌}
use Rattle.cal_span.specs.rules.SpanText.{span_text}
use Rattle.cal_bytes.specs.rules.Separators.{words}

-- a space and the first word, or nothing if there are no words
abbrev pub second_word : List (List ℕ) → List ℕ
second_word [] = []
second_word (word ∷ _) = 32 ∷ word

-- the first two words, with a space between them
abbrev pub two_words : List (List ℕ) → List ℕ
two_words [] = []
two_words (word ∷ others) = word ++ second_word others

-- the time span between two instants, printed with only the two largest of its units
abbrev pub two_units : ℤ → ℤ → List ℕ
two_units now secs = two_words (words (span_text (unsigned_abs (secs -ℤ now) * 1_000_000)))

-- how long it is until an instant: the two largest units, or `now` if the instant isn't in the future
abbrev pub time_left : ℤ → ℤ → List ℕ
time_left now secs = if int_le secs now then codes "now" else two_units now secs

-- how long ago an instant was: the two largest units, before the word `ago`, or `now` if the instant isn't in the past
abbrev pub time_ago : ℤ → ℤ → List ℕ
time_ago now secs = if int_le now secs then codes "now" else two_units secs now ++ codes " ago"
