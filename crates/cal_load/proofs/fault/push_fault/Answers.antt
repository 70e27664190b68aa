use Rattle.cal_load.proofs.UnitLemmas.{fault_pushed}
use Rattle.cal_load.proofs.fault.push_fault.Goals as goal

pub returns-in_ok-push-in-Target-clause-reported : goal.returns-in_ok-push-in-Target-clause-reported
returns-in_ok-push-in-Target-clause-reported c =
    fault_pushed c.args.faults.now.items c.push.new.self.items _ c.args.target.now c.args.fault c.in_ok-push-in-Target.ensures.items
    c.in_ok-target-in-Target.ensures.ok c.in-Target.is
