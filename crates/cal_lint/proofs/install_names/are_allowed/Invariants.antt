use Rattle.std.proofs.Common.{◌≡◌, length}
use denote.Shadow.{shadow}
use denote.Text.{Utf8}
use Rattle.std.specs.List.{list_all}
use Rattle.cal_bytes.specs.rules.Separators.{words}
use Rattle.cal_lint.specs.rules.InstallNames.{is_allowed}
use Rattle.cal_lint.proofs.install_names.are_allowed.Given as goal

-- all words so far are allowed, so all remaining words are allowed if and only if all words are
abbrev pub invariant-loop-name : goal.invariant-loop-name
invariant-loop-name l = record {
  utf8 : shadow (Utf8 l.rest);
  words : list_all (is_allowed l.key) (words l.rest) ≡ list_all (is_allowed l.key) (words l.value);
}

abbrev pub decreases-loop-name : goal.decreases-loop-name
decreases-loop-name l = length (words l.rest)
