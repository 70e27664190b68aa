use Rattle.std.proofs.Common.{◌≡◌, false}
use Rattle.cal_library_tests.proofs.elapses.merges.merge_elapses.Given as goal

-- The merge has not returned a number yet.
abbrev pub invariant-loop-text : goal.invariant-loop-text
invariant-loop-text l = l.merge.started ≡ false
