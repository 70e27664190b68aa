use Rattle.std.proofs.Common.{◌≡◌, ◌++◌, map}
use Rattle.std.specs.List.{filter_map}
use Rattle.cal_unit_index.specs.rules.Index.{destination_of}
use Rattle.cal_unit_index.specs.rules.Names.{alias_with, shown_alias}
use Rattle.cal_unit_index.proofs.aliases.push_aliases.Given as goal

-- the aliases among the stems that the loop has visited have been appended
abbrev pub invariant-loop-stem : goal.invariant-loop-stem
invariant-loop-stem l =
    map shown_alias l.aliases.items
    ≡ map shown_alias l.fn.aliases.items ++ filter_map (alias_with (destination_of l.index)) (map (λ stem. stem.now) l.yielded)
