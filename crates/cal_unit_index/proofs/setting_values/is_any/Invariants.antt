-- The value is among the remaining words if and only if it is among all words, because it isn't one of the words so
-- far.
use Rattle.std.proofs.Common.{◌≡◌, drop, map}
use Rattle.std.specs.List.{list_any}
use Rattle.std.specs.Str.{str_eq_ignore_ascii_case}
use Rattle.cal_unit_index.proofs.setting_values.is_any.Given as goal

abbrev pub invariant-loop-word : goal.invariant-loop-word
invariant-loop-word l =
    list_any (str_eq_ignore_ascii_case l.value) (map (λ word. word.now) (drop l.word-index l.words))
    ≡ list_any (str_eq_ignore_ascii_case l.value) (map (λ word. word.now) l.words)
