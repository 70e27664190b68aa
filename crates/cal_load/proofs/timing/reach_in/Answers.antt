use Rattle.std.proofs.Common.{map}
use Rattle.cal_read.specs.rules.SectionAssignments.{shown_owned_assignment}
use Rattle.cal_load.proofs.TimingLemmas.{reach_is}
use Rattle.cal_load.proofs.timing.reach_in.Goals as goal

pub returns : goal.returns
returns c =
    reach_is (map shown_owned_assignment c.args.assignments.now) _ _ _ _
    c.in_ok-delay.ensures c.in_ok-accuracy.ensures c.in_ok-offset.ensures c.whole_seconds.ensures
