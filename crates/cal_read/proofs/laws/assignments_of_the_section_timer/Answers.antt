use Rattle.cal_read.proofs.SectionAssignmentsLemmas.{assignments_of_timer}
use Rattle.cal_read.proofs.laws.assignments_of_the_section_timer.Goals as goal

pub returns : goal.returns
returns c = assignments_of_timer
