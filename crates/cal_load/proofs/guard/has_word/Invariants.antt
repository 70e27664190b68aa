-- The word is among the remaining words if and only if it is among all words, because none of the words so far equals
-- it.
use Rattle.std.proofs.Common.{◌≡◌, length}
use denote.Shadow.{shadow}
use denote.Text.{Utf8}
use Rattle.cal_bytes.specs.rules.Separators.{words}
use Rattle.cal_unit_index.specs.rules.Destinations.{is_among}
use Rattle.cal_load.proofs.guard.has_word.Given as goal

abbrev pub invariant-loop-first : goal.invariant-loop-first
invariant-loop-first l = record {
  utf8 : shadow (Utf8 l.rest);
  words : is_among (words l.rest) l.word ≡ is_among (words l.text) l.word;
}

abbrev pub decreases-loop-first : goal.decreases-loop-first
decreases-loop-first l = length (words l.rest)
