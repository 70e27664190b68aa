use Rattle.std.proofs.Common.{◌∙◌, ap, map, sym}
use Rattle.cal_read.specs.rules.SectionAssignments.{shown_owned_assignment}
use Rattle.cal_load.proofs.NoteLemmas.{assignment_kept, nothing_kept}
use Rattle.cal_load.proofs.notes.kept_of.Goals as goal

pub loop-assignment-init : goal.loop-assignment-init
loop-assignment-init c = ap (map shown_owned_assignment) c.new-kept.ensures.items ∙ sym nothing_kept

pub loop-assignment-preserved : goal.loop-assignment-preserved
loop-assignment-preserved c =
    assignment_kept c.loop-assignment.yielded _ (map shown_owned_assignment c.loop-assignment.kept.items) _ c.loop-assignment.invariant c.in_ok-apply_assignment.ensures
