use Rattle.std.proofs.Common.{◌∙◌, ap}
use Rattle.cal_read.specs.rules.SectionAssignments.{section_assignments}
use Rattle.cal_read.proofs.SectionAssignmentsLemmas.{no_assignments}
use Rattle.cal_read.proofs.section_assignments.Assignments.next.Goals as goal

pub returns-clause-next : goal.returns-clause-next
returns-clause-next c =
    let none = rw c.in_default.is at c.in_ok-line.ensures.lines in
    c.loop-line.invariant.left
    ∙ ap (section_assignments c.loop-line.self-inside.section.now c.loop-line.inside) none
    ∙ no_assignments c.loop-line.self-inside.section.now c.loop-line.inside
