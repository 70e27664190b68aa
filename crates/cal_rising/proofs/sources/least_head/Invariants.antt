use Rattle.std.proofs.Common.{◌≡◌, map, take, slice_get}
use Rattle.cal_rising.specs.rules.Merge.{numbers}
use Rattle.cal_rising.specs.rules.RisingList.{union}
use Rattle.cal_rising.proofs.sources.least_head.Given as goal

-- `least` is the smallest number read ahead from the sources visited so far
abbrev pub invariant-loop-peeked : goal.invariant-loop-peeked
invariant-loop-peeked g l = l.least ≡ slice_get (union (map numbers (take l.peeked-index l.peeked-items))) 0
