-- The words found so far and those of the remaining text are the words of the text.
use Rattle.std.proofs.Common.{◌≡◌, ◌++◌, length, map}
use denote.Shadow.{shadow}
use denote.Text.{Utf8}
use Rattle.cal_bytes.specs.rules.Separators.{words}
use Rattle.cal_load.proofs.condition.words_of.Given as goal

abbrev pub invariant-loop-word : goal.invariant-loop-word
invariant-loop-word l = record {
  utf8 : shadow (Utf8 l.rest);
  words : map (λ word. word.now) l.found.items ++ words l.rest ≡ words l.text;
}

abbrev pub decreases-loop-word : goal.decreases-loop-word
decreases-loop-word l = length (words l.rest)
