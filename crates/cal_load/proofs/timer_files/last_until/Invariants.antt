use Rattle.std.proofs.Common.{ℕ, ◌<◌, ◌≤◌}
use Rattle.std.specs.Prelude.{MatchOption, slice_index}
use Rattle.cal_load.proofs.timer_files.last_until.Given as goal

-- If an index was found, it is the index of the last number so far that is at most `number`. Otherwise all numbers so
-- far are larger.
abbrev pub invariant-loop-index : goal.invariant-loop-index
invariant-loop-index l =
    MatchOption l.found ((k : ℕ) → k < l.index → l.number < slice_index l.numbers k)
    (λ index. (index < l.index) × (slice_index l.numbers index ≤ l.number)
    × ((k : ℕ) → index < k → k < l.index → l.number < slice_index l.numbers k))
