use Rattle.std.proofs.Common.{◌≡◌, drop}
use Rattle.std.specs.List.{find, list_any}
use Rattle.std.specs.Str.{bytes_eq}
use Rattle.cal_span.specs.rules.UnitSpellings.{spellings_of}
use Rattle.cal_span.proofs.span.value.find_unit.Given as goal

-- searching the remaining units for one that can be spelled `word` has the same result as searching all units
abbrev pub invariant-loop-unit : goal.invariant-loop-unit
invariant-loop-unit l =
    find (λ unit. list_any (bytes_eq l.word) (spellings_of unit)) (drop l.unit-index l.units) ≡ find (λ unit. list_any (bytes_eq l.word) (spellings_of unit)) l.units
