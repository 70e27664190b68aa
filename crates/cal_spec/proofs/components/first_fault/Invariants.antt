use Rattle.std.proofs.Common.{◌≡◌, drop}
use Rattle.cal_spec.specs.computed.Components.{first_value_fault}
use Rattle.cal_spec.proofs.components.first_fault.Given as goal

-- the first error of all parts is the first error of the remaining parts, since the parts checked so far have none
abbrev pub invariant-loop-part : goal.invariant-loop-part
invariant-loop-part l = first_value_fault l.slot (drop l.part-index l.parts) ≡ first_value_fault l.slot l.parts
