use Rattle.std.proofs.Common.{◌≡◌, ◌+◌, ◌≤◌, length, take}
use Rattle.std.specs.List.{suffix_len}
use Rattle.std.specs.Prelude.{not}
use Rattle.cal_load.specs.rules.Specifiers.{is_dash}
use Rattle.cal_load.proofs.specifiers.after_last_dash.Given as goal

-- the bytes from `start` on aren't dashes
abbrev pub invariant-loop-start : goal.invariant-loop-start
invariant-loop-start l = record {
  within : l.start ≤ length l.text;
  no_dash : l.start + suffix_len (λ b. not (is_dash b)) l.text ≡ length l.text + suffix_len (λ b. not (is_dash b)) (take l.start l.text);
}

abbrev pub decreases-loop-start : goal.decreases-loop-start
decreases-loop-start l = l.start
