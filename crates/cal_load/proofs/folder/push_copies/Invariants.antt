use Rattle.std.proofs.Common.{◌≡◌, ◌++◌, map, take}
use Rattle.cal_unit_index.specs.rules.Index.{shown_fault}
use Rattle.cal_load.proofs.folder.push_copies.Given as goal

abbrev pub invariant-loop-fault : goal.invariant-loop-fault
invariant-loop-fault l = map shown_fault l.faults.items ≡ map shown_fault l.fn.faults.items ++ map shown_fault (take l.fault-index l.more)
