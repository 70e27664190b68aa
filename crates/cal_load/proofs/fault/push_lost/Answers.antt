use Rattle.cal_load.proofs.FileFaultLemmas.{lost_more}
use Rattle.cal_load.proofs.UnitLemmas.{keeps_both}
use Rattle.cal_load.proofs.fault.push_lost.Goals as goal

pub loop-fault-preserved : goal.loop-fault-preserved
loop-fault-preserved c = (
  keeps_both c.args.faults.now.items c.loop-fault.faults.items _ c.loop-fault.invariant.0 c.in_ok-push_path.ensures.kept,
  lost_more c.loop-fault.yielded c.in-Some.fault c.args.faults.now.items c.loop-fault.faults.items _ c.loop-fault.invariant.1 c.in_ok-push_path.ensures.lost,
)
