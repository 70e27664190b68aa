use Rattle.std.proofs.Common.{◌≡◌, length}
use denote.Shadow.{shadow}
use denote.Text.{Utf8}
use Rattle.std.specs.List.{list_any}
use Rattle.cal_bytes.specs.rules.Separators.{words}
use Rattle.cal_lint.specs.rules.Systemd252.{word_is_rejected_for}
use Rattle.cal_lint.proofs.older_systemd.any_word_is_rejected_for.Given as goal

-- no word so far makes systemd 252 reject the expression, so one of the remaining words does if and only if one of all
-- words does
abbrev pub invariant-loop-word : goal.invariant-loop-word
invariant-loop-word l = record {
  utf8 : shadow (Utf8 l.rest);
  words : list_any (word_is_rejected_for l.rejection) (words l.rest) ≡ list_any (word_is_rejected_for l.rejection) (words l.text);
}

abbrev pub decreases-loop-word : goal.decreases-loop-word
decreases-loop-word l = length (words l.rest)
