use Rattle.std.proofs.Common.{◌≡◌, ◌≤◌, ℕ, map, take, slice_index_or}
use Rattle.cal_rising.specs.rules.Merge.{Peeked, numbers, advanced}
use Rattle.cal_rising.proofs.sources.advance_all_past.Given as goal

-- the remaining numbers of each source visited so far are what `advanced` returns for the numbers that remained in this
-- source before the loop; the other sources are unchanged
abbrev pub invariant-loop-peeked : goal.invariant-loop-peeked
invariant-loop-peeked g l = record {
  given : map numbers (take l.peeked-index l.peeked-items) ≡ map (advanced l.number) (map numbers (take l.peeked-index l.initial.peeked-items));
  untouched : (k : ℕ) (d : Peeked) → l.peeked-index ≤ k → slice_index_or l.peeked-items k d ≡ slice_index_or l.initial.peeked-items k d;
}
