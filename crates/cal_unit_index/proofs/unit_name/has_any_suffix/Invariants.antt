-- One of the remaining suffixes fits if and only if any suffix fits, because the suffixes so far don't.
use Rattle.std.proofs.Common.{◌≡◌, drop, map}
use Rattle.std.specs.List.{list_any}
use Rattle.cal_unit_index.specs.rules.UnitName.{is_before_suffix}
use Rattle.cal_unit_index.proofs.unit_name.has_any_suffix.Given as goal

abbrev pub invariant-loop-suffix : goal.invariant-loop-suffix
invariant-loop-suffix l =
    list_any (is_before_suffix l.name) (map (λ suffix. suffix.now) (drop l.suffix-index l.suffixes))
    ≡ list_any (is_before_suffix l.name) (map (λ suffix. suffix.now) l.suffixes)
