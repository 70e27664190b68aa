use Rattle.std.proofs.Common.{◌∙◌}
use Rattle.std.proofs.lemmas.Result.{IfOk-weaker}
use Rattle.cal_load.proofs.ReadableLemmas.{timer_section_read}
use Rattle.cal_load.proofs.readable.read_lines.Goals as goal

pub returns-clause-assignments : goal.returns-clause-assignments
returns-clause-assignments c =
    IfOk-weaker c.read_section.result _ _ (λ read h. h ∙ timer_section_read c.args.first c.args.bytes.now) c.read_section.ensures.assignments
