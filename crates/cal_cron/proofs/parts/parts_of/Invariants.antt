use Rattle.std.proofs.Common.{◌≡◌, map, take}
use Rattle.cal_cron.specs.computed.Translation.{part_of}
use Rattle.cal_cron.proofs.parts.parts_of.Given as goal

-- the parts so far are those of the ranges before the loop's index
abbrev pub invariant-loop-range : goal.invariant-loop-range
invariant-loop-range l = l.parts.items ≡ map (part_of l.slot) (take l.range-index l.ranges)
