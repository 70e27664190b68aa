use Rattle.std.proofs.Common.{get_or, arith}
use Rattle.std.proofs.lemmas.List.{get_or_default}
use Rattle.std.proofs.lemmas.List.Edits.{map_over_more}
use Rattle.cal_spec.specs.computed.NormalParts.{reduced}
use Rattle.cal_spec.specs.rules.NormalForm.{point}
use Rattle.cal_spec.proofs.normal_form.reduce_each.Goals as goal

pub loop-part-preserved : goal.loop-part-preserved
loop-part-preserved c =
    let at = c.loop-part.part-index in
    let part = get_or c.loop-part.part-items at (point 0) in
    rw c.reduce.ensures
    (map_over_more reduced c.args.parts.now.items c.loop-part.part-items at part (omega arith) c.loop-part.invariant (get_or_default c.loop-part.part-items at (point 0) part (omega arith)))
