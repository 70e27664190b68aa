use Rattle.std.proofs.Common.{◌≡◌, ◌+◌, ◌-◌, ◌<◌, arith, ap, length, length-drop, ◌∙◌}
use Rattle.std.specs.List.{after_first, position_or_len}
use Rattle.std.specs.Prelude.{◌==◌}
use Rattle.std.specs.Str.Lines.{lines}
use Rattle.std.proofs.lemmas.Bool.Decides.{nat_tests}
use Rattle.cal_load.proofs.ReadableLemmas.{one_line_more}
use Rattle.cal_load.proofs.readable.line_count.Goals as goal

pub loop-rest-preserved : goal.loop-rest-preserved
loop-rest-preserved c =
    let rest = c.loop-rest.rest.now in
    let some : 0 < length rest = grind (arith, nat_tests, c.loop-rest-test.ensures) in
    let after : length (lines c.split_line.result.1.now) ≡ length (lines (after_first (λ b. b == 10) rest)) = ap (λ bs. length (lines bs)) c.split_line.ensures.after in
    let more = one_line_more rest some in
    let shorter : length c.split_line.result.1.now ≡ length rest - (position_or_len (λ b. b == 10) rest + 1) = ap length c.split_line.ensures.after ∙ length-drop _ rest in
    let counted = c.loop-rest.invariant.counted in
    let bounds = c.loop-rest.invariant.bounds in
    record { counted = omega arith; bounds = omega arith }
