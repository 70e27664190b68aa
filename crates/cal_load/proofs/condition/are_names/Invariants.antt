-- All of the names so far are the timer's.
use Rattle.std.proofs.Common.{◌≡◌, drop, map}
use Rattle.std.specs.List.{list_all}
use Rattle.cal_load.specs.rules.Condition.{names_timer}
use Rattle.cal_load.proofs.condition.are_names.Given as goal

abbrev pub invariant-loop-name : goal.invariant-loop-name
invariant-loop-name l =
    list_all (names_timer l.stem) (map (λ word. word.now) (drop l.name-index l.names))
    ≡ list_all (names_timer l.stem) (map (λ word. word.now) l.names)
