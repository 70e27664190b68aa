use Rattle.std.proofs.Common.{◌≡◌, map, take, string_bytes}
use Rattle.cal_machine.proofs.steps.parts_of.Given as goal

-- the parts before the loop's index have been copied
abbrev pub invariant-loop-part : goal.invariant-loop-part
invariant-loop-part l = map string_bytes l.parts.items ≡ map (λ part. part.now) (take l.part-index l.part-items)
