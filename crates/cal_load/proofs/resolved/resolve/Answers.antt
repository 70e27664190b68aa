use Rattle.std.proofs.Common.{◌∙◌, ap, map, sym}
use Rattle.cal_read.specs.rules.SectionAssignments.{shown_owned_assignment}
use Rattle.cal_load.proofs.ResolvedLemmas.{nothing_unclear, resolved_more, unclear_more}
use Rattle.cal_load.proofs.resolved.resolve.Goals as goal

pub loop-assignment-init : goal.loop-assignment-init
loop-assignment-init c = record {
  resolved = ap (map shown_owned_assignment) c.new.ensures.items;
  unclear = ap (map shown_owned_assignment) c.new-2.ensures.items ∙ sym (nothing_unclear c.args.name.now);
}

pub loop-assignment-preserved : goal.loop-assignment-preserved
loop-assignment-preserved c = record {
  resolved = resolved_more c.args.name.now c.in_ok-own.own.now c.loop-assignment.yielded _ _ _ c.in_ok-own.ensures c.loop-assignment.invariant.resolved c.in_ok-add.ensures.assignments;
  unclear = unclear_more c.args.name.now c.in_ok-own.own.now c.loop-assignment.yielded _ _ _ c.in_ok-own.ensures c.loop-assignment.invariant.unclear c.in_ok-add.ensures.unclear;
}
