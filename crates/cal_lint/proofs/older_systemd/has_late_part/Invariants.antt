use Rattle.std.proofs.Common.{◌≡◌}
use Rattle.std.specs.Prelude.{drop}
use Rattle.cal_lint.specs.rules.Systemd252.{has_late_part}
use Rattle.cal_lint.proofs.older_systemd.has_late_part.Given as goal

-- no part so far has a number that is too large, so one of the remaining parts has one if and only if any part has one
abbrev pub invariant-loop-part : goal.invariant-loop-part
invariant-loop-part l = has_late_part l.greatest (drop l.part-index l.parts) ≡ has_late_part 28 l.parts
