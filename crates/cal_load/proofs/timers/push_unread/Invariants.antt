use Rattle.std.proofs.Common.{◌≡◌, map}
use Rattle.std.specs.Prelude.{⊤}
use Rattle.cal_unit_index.specs.rules.Index.{shown_fault}
use Rattle.cal_load.specs.rules.AllTargets.{IsMore}
use Rattle.cal_load.specs.rules.AllTargets.Sought.{UnreadPath}
use Rattle.cal_load.proofs.timers.push_unread.Given as goal

abbrev pub invariant-loop-fault : goal.invariant-loop-fault
invariant-loop-fault l =
    IsMore (λ machine search_path. ⊤) (λ machine search_path. map UnreadPath (map shown_fault l.yielded)) l.fn.loaded l.loaded
    × (l.loaded.timers.items ≡ l.fn.loaded.timers.items)
