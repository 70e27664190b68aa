use Rattle.std.proofs.Common.{◌≡◌}
use Rattle.std.specs.Option.{option_copied}
use Rattle.cal_bytes.specs.computed.SplitPieces.{left, pieces_after}
use Rattle.cal_lint.specs.rules.Systemd252.{has_extra_after, is_space}
use Rattle.cal_lint.proofs.older_systemd.has_extra_after.Given as goal

-- systemd 252 skips all additional spaces so far, so the rest has one that systemd 252 doesn't skip if and only if the
-- whole text has one
abbrev pub invariant-loop-rest : goal.invariant-loop-rest
invariant-loop-rest l =
    has_extra_after l.skips (pieces_after is_space (option_copied l.rest))
    ≡ has_extra_after l.fn.skips (pieces_after is_space (option_copied l.fn.rest))

abbrev pub decreases-loop-rest : goal.decreases-loop-rest
decreases-loop-rest l = left (option_copied l.rest)
