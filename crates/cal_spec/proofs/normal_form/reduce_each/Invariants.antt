-- The parts before the loop's index have been replaced by their normal forms, and the others are unchanged.
use Rattle.std.proofs.Common.{◌≡◌, ◌++◌, take, drop, map}
use Rattle.cal_spec.specs.computed.NormalParts.{reduced}
use Rattle.cal_spec.proofs.normal_form.reduce_each.Given as goal

abbrev pub invariant-loop-part : goal.invariant-loop-part
invariant-loop-part l = l.part-items ≡ map reduced (take l.part-index l.fn.parts.items) ++ drop l.part-index l.fn.parts.items
