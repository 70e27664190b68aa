use Rattle.std.proofs.Common.{◌≡◌, ◌+◌, ◌*◌, ◌<◌, ℕ, false, get_or}
use Rattle.cal_elapse.specs.computed.Bits.{is_set}
use Rattle.cal_elapse.proofs.scan.more_zeros.Given as goal

-- all words in the groups of 8 that have been tested so far are 0
abbrev pub invariant-loop-block : goal.invariant-loop-block
invariant-loop-block l = (k : ℕ) → k < l.fn.from + l.block * 8 → is_set (get_or l.cells k 0) ≡ false
