use Rattle.std.proofs.Common.{◌≡◌, true, length}
use Rattle.cal_rising.specs.rules.Merge.{merged}
use Rattle.cal_rising.specs.rules.RisingList.{union, without}
use Rattle.cal_rising.proofs.merge.MergeRising.next.Given as goal

-- the merge is marked as started, and the numbers that the merge has yet to return are the same as before the loop
abbrev pub invariant-loop-number : goal.invariant-loop-number
invariant-loop-number g l = record {
  started : l.self-inside.started ≡ true;
  same : without (union l.self-inside.sources) (union l.self-inside.exceptions) ≡ merged l.fn.self;
}

-- each round takes a number from the sources, so they have fewer numbers left
abbrev pub decreases-loop-number : goal.decreases-loop-number
decreases-loop-number g l = length (union l.self-inside.sources)
