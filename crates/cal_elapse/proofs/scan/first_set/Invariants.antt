use Rattle.std.proofs.Common.{◌≡◌, ◌<◌, ℕ, false, get_or}
use Rattle.cal_elapse.specs.computed.Bits.{is_set}
use Rattle.cal_elapse.proofs.scan.first_set.Given as goal

-- all words before the index `at` are 0
abbrev pub invariant-loop-at : goal.invariant-loop-at
invariant-loop-at l = (k : ℕ) → k < l.at → is_set (get_or l.cells k 0) ≡ false
