use Rattle.std.proofs.Common.{map}
use Rattle.cal_unit_index.specs.rules.Index.{shown_fault}
use Rattle.cal_load.specs.rules.AllUnits.{Keeps}
use Rattle.cal_load.specs.rules.FileFaults.{AreLostAlso, lost_path}
use Rattle.cal_load.proofs.fault.push_lost.Given as goal

abbrev pub invariant-loop-fault : goal.invariant-loop-fault
invariant-loop-fault l =
    Keeps l.fn.faults.items l.faults.items
    × AreLostAlso (map lost_path (map shown_fault l.yielded)) l.fn.faults.items l.faults.items
