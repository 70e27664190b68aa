use Rattle.std.proofs.Common.{◌≡◌, ◌<◌, ℕ, map, slice_index_or}
use Rattle.cal_rising.specs.rules.Merge.{HasHead, Peeked, numbers}
use Rattle.cal_rising.proofs.sources.peek_all.Given as goal

-- all sources have the same remaining numbers as before, and for those visited so far, the first of these numbers has
-- been read ahead (`HasHead`)
abbrev pub invariant-loop-peeked : goal.invariant-loop-peeked
invariant-loop-peeked g l = record {
  same : map numbers l.peeked-items ≡ map numbers l.initial.peeked-items;
  taken : (k : ℕ) (d : Peeked) → k < l.peeked-index → HasHead (slice_index_or l.peeked-items k d);
}
