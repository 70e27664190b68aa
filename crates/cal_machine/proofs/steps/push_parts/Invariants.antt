use Rattle.std.proofs.Common.{◌≡◌, ◌++◌, map, take, string_bytes}
use Rattle.std.specs.List.{flat_map}
use Rattle.cal_machine.specs.rules.Places.{below}
use Rattle.cal_machine.proofs.steps.push_parts.Given as goal

-- the parts before the loop's index have been appended
abbrev pub invariant-loop-part : goal.invariant-loop-part
invariant-loop-part l = string_bytes l.path ≡ string_bytes l.fn.path ++ flat_map below (map string_bytes (take l.part-index l.parts))
