use Rattle.std.proofs.Common.{◌≡◌, ◌++◌, map}
use Rattle.cal_unit_index.specs.rules.Folders.{prefixes_within}
use Rattle.cal_unit_index.proofs.folders.push_prefixes.Given as goal

abbrev pub invariant-loop-index : goal.invariant-loop-index
invariant-loop-index l = map (λ stem. stem.now) l.stems.items ≡ map (λ stem. stem.now) l.fn.stems.items ++ prefixes_within l.base l.index
