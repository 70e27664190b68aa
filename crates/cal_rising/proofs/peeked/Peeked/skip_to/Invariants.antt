use Rattle.std.proofs.Common.{length}
use Rattle.cal_rising.specs.rules.Merge.{HasHead, numbers}
use Rattle.cal_rising.specs.rules.RisingList.{IsSameFrom}
use Rattle.cal_rising.proofs.peeked.Peeked.skip_to.Given as goal

-- from `number` upwards the source has the same numbers as at the start, and its first number, if any, was read ahead
abbrev pub invariant-steps : goal.invariant-steps
invariant-steps g l = record {
  left : IsSameFrom l.number (numbers l.self) (numbers l.fn.self);
  taken : HasHead l.self;
}

-- each round drops a number, so the source has fewer numbers left
abbrev pub decreases-steps : goal.decreases-steps
decreases-steps g l = length (numbers l.self)
